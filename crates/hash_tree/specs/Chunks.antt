-- The rows of a leaf in chunks, and the text of each chunk.
use Rattle.std.specs.Prelude.{◌≡◌, ℕ, zero, suc, ◌+◌, ◌^◌, ◌<◌, ◌≤◌, Bool, false, List, [], ◌∷◌, ◌++◌, length, take, Result, Ok, Err}
use Rattle.std.specs.List.{AllByRecursion, flat_map}
use Rattle.std.specs.Ordering.{is_le}
use Rattle.vclock.specs.declared.format.Format.{Format}
use Rattle.version_set.specs.declared.version.Version.{Version}
use Rattle.version_set.specs.Version.{offered}
use Rattle.row_bytes.specs.declared.row.Row.{Row}
use Rattle.row_bytes.specs.Rows.{row_text}
use Rattle.hash_tree.specs.Leaves.{Bucket, key_cmp, IsAt, IsBetween}
use Rattle.hash_tree.specs.declared.chunks.Spot.{Spot}

-- the rows of all chunks, in order
abbrev pub all_rows : List Bucket → List Row
all_rows chunks = flat_map (λ (c : Bucket). c.rows) chunks

-- the rows of chunk i
abbrev pub chunk_rows : List Bucket → ℕ → List Row
chunk_rows [] i = []
chunk_rows (c ∷ chunks) zero = c.rows
chunk_rows (c ∷ chunks) (suc i) = chunk_rows chunks i

-- the texts of the rows of a chunk, in order
abbrev pub chunk_text : Bucket → List ℕ
chunk_text c = flat_map (row_text c.format) c.rows

-- a chunk of a leaf: 1 to 15 rows of the leaf's format
pub record IsChunk (format : Format) (c : Bucket) : Type 0 where
  pub same : c.format ≡ format
  pub some : 1 ≤ length c.rows
  pub few : length c.rows ≤ 15

-- the chunks of a leaf: at most 2^56, so that a number of rows fits its type
pub record AreChunks (format : Format) (chunks : List Bucket) : Type 0 where
  pub each : AllByRecursion (IsChunk format) chunks
  pub few : length chunks ≤ 2 ^ 56

-- the place among all rows of the row at a spot
abbrev pub place_in : List Bucket → Spot → ℕ
place_in chunks s = length (all_rows (take s.chunk chunks)) + s.at

-- there is a row at the spot
pub record IsRowSpot (chunks : List Bucket) (s : Spot) : Type 0 where
  pub chunk : s.chunk < length chunks
  pub within : s.at < length (chunk_rows chunks s.chunk)

-- a row can be inserted at the spot
pub record IsGapSpot (chunks : List Bucket) (s : Spot) : Type 0 where
  pub chunk : s.chunk < length chunks
  pub within : s.at ≤ length (chunk_rows chunks s.chunk)

-- a row can be inserted at the spot, and its chunk has fewer than 15 rows
pub record IsRoomySpot (chunks : List Bucket) (s : Spot) : Type 0 where
  pub gap : IsGapSpot chunks s
  pub room : length (chunk_rows chunks s.chunk) < 15

-- the spot of the row of a key, or the spot at which one would be inserted if there are chunks
abbrev pub IsSpot : List ℕ → List Bucket → Result Spot Spot → Type 0
IsSpot k chunks (Ok s) = IsRowSpot chunks s × IsAt k (all_rows chunks) (place_in chunks s)
IsSpot k chunks (Err s) = (1 ≤ length chunks → IsGapSpot chunks s) × IsBetween k (all_rows chunks) (place_in chunks s)

-- the key of the first row, or no bytes
abbrev pub first_key : List Row → List ℕ
first_key [] = []
first_key (r ∷ rows) = r.key

-- the first key of some rows is at most a key
abbrev pub begin_by : List ℕ → List Row → Bool
begin_by k [] = false
begin_by k (r ∷ rows) = is_le (key_cmp r.key k)

-- the versions of row i
abbrev pub row_versions : List Row → ℕ → List Version
row_versions [] i = []
row_versions (r ∷ rows) zero = r.versions
row_versions (r ∷ rows) (suc i) = row_versions rows i

-- the rows after an offer of a version to the set of row i
abbrev pub offered_at : List Row → ℕ → Version → List Row
offered_at [] i v = []
offered_at (r ∷ rows) zero v = record { key = r.key; versions = offered v r.versions } ∷ rows
offered_at (r ∷ rows) (suc i) v = r ∷ offered_at rows i v

-- the parts after a split of chunk i, which has 15 rows, into a chunk of cut rows and a chunk of the others
pub record IsSplit (chunks : List Bucket) (i cut : ℕ) (parts : List Bucket) : Type 0 where
  pub rows : all_rows parts ≡ all_rows chunks
  pub more : length parts ≡ length chunks + 1
  pub before : take i parts ≡ take i chunks
  pub front : length (chunk_rows parts i) ≡ cut
  pub first : all_rows (take (i + 1) parts) ≡ all_rows (take i chunks) ++ chunk_rows parts i
  pub back : length (chunk_rows parts (i + 1)) + cut ≡ 15
  pub each : (format : Format) → AreChunks format chunks → AreChunks format parts
