-- Rows, and the places at which a table finds them.
use Rattle.std.specs.Prelude.{◌≡◌, ℕ, zero, suc, ◌-◌, ◌%◌, ◌<◌, ◌≤◌, Bool, false, List, [], ◌∷◌, ◌++◌, length, Option, Some, None, slice_get, slice_set, option_map, unwrap_or, nat_eq, bytes_eq, max, if◌then◌else◌}
use Rattle.version_set.specs.declared.version.Version.{Version}
use Rattle.row_table.specs.declared.seed.Seed.{Seed}
use Rattle.row_table.specs.declared.table.TableRow.{TableRow}
use Rattle.row_table.specs.Hashes.{key_hash}

-- the seed, the rows in order of insertion, and the number of rows that can be inserted without allocating
pub record Table : Type 0 where
  pub seed : Seed
  pub rows : List TableRow
  pub room : ℕ

-- a row is present and has a property
abbrev pub is_with : (TableRow → Bool) → Option TableRow → Bool
is_with test None = false
is_with test (Some r) = test r

-- the last of the first n rows with a property: one more than its place, or 0 for none
abbrev pub last_with : (TableRow → Bool) → List TableRow → ℕ → ℕ
last_with test rs zero = 0
last_with test rs (suc n) = if is_with test (slice_get rs n) then suc n else last_with test rs n

-- a place that is one less than a number, if the number is not 0
abbrev pub before : ℕ → Option ℕ
before zero = None
before (suc n) = Some n

-- a row has the key
abbrev pub is_of : List ℕ → TableRow → Bool
is_of key r = bytes_eq r.key key

-- the bucket of a key, among `size` buckets
abbrev pub bucket_of : Seed → ℕ → List ℕ → ℕ
bucket_of seed size key = key_hash seed key % 4294967296 % size

-- a row's key is in a bucket
abbrev pub is_in : Seed → ℕ → ℕ → TableRow → Bool
is_in seed size bucket r = nat_eq (bucket_of seed size r.key) bucket

-- the place of the last row of a key
abbrev pub place_of : List TableRow → List ℕ → Option ℕ
place_of rs key = before (last_with (is_of key) rs (length rs))

-- the row at a place, if any
abbrev pub at_place : List TableRow → Option ℕ → Option TableRow
at_place rs None = None
at_place rs (Some place) = slice_get rs place

-- the versions of the row at a place, or none
abbrev pub set_at : List TableRow → Option ℕ → List Version
set_at rs place = unwrap_or (option_map (λ r. r.set) (at_place rs place)) []

-- the versions of the last row of a key, or none
abbrev pub set_in : List TableRow → List ℕ → List Version
set_in rs key = set_at rs (place_of rs key)

abbrev pub with_room : Table → ℕ → Table
with_room t rows = record t { room = max t.room rows }

-- the table with capacity for a row at a place
abbrev pub with_room_at : Table → Option ℕ → Table
with_room_at t None = with_room t 1
with_room_at t (Some place) = t

abbrev pub with_row : Table → TableRow → Table
with_row t r = record { seed = t.seed; rows = t.rows ++ r ∷ []; room = t.room - 1 }

-- the table with a row at a place, or at its end
abbrev pub put_in : Table → Option ℕ → TableRow → Table
put_in t None r = with_row t r
put_in t (Some place) r = record t { rows = slice_set t.rows place r }

-- the table with a row in the place of the last row of its key
abbrev pub with_put : Table → TableRow → Table
with_put t r = put_in t (place_of t.rows r.key) r

-- the table after rows are put, the last row first
abbrev pub with_all : Table → List TableRow → Table
with_all t [] = t
with_all t (r ∷ rows) = with_put (with_all t rows) r

-- An index of the first rows has the last of them in each bucket made so far, and for each of them the one before it in
-- its bucket.
pub record IsIndex (seed : Seed) (rs : List TableRow) (size : ℕ) (last earlier : List ℕ) : Type 0 where
  pub some : 0 < size
  pub last_is : (bucket : ℕ) → bucket < length last → slice_get last bucket ≡ Some (last_with (is_in seed size bucket) rs (length earlier))
  pub earlier_is : (i : ℕ) (r : TableRow) → i < length earlier → slice_get rs i ≡ Some r → slice_get earlier i ≡ Some (last_with (is_in seed size (bucket_of seed size r.key)) rs i)
  pub few : length last ≤ size
  pub within : length earlier ≤ length rs
  pub whole : 0 < length earlier → length last ≡ size
