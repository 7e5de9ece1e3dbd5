-- Rows in order of key, and their distribution over leaves: section 4.7 of the Dynamo paper.
use Rattle.std.specs.Prelude.{◌≡◌, ◌≢◌, ℕ, ◌<◌, ◌≤◌, ◌++◌, nat_eq, List, [], ◌∷◌, length, filter, take, drop, slice_index_or, slice_set, Option, Some, None, Result, Ok, Err}
use Rattle.std.specs.List.{AllByRecursion, Contains}
use Rattle.std.specs.declared.cmp.Ordering.{Ordering}
use Rattle.std.specs.declared.cmp.Ordering.TheVariants.{Less}
use Rattle.std.specs.Ordering.{nat_cmp}
use Rattle.std.specs.Cmp.Lexicographic.{slice_cmp}
use Rattle.version_set.specs.declared.version.Version.{Version}
use Rattle.version_set.specs.Order.{Pairwise, place_by}
use Rattle.version_set.specs.Version.{offered}
use Rattle.vclock.specs.declared.format.Format.{Format}
use Rattle.row_bytes.specs.declared.row.Row.{Row}
use Rattle.row_bytes.specs.Rows.{FitsText}

-- the order of keys, byte by byte
abbrev pub key_cmp : List ℕ → List ℕ → Ordering
key_cmp = slice_cmp nat_cmp

-- each row's key is less than the keys of the rows after it
abbrev pub AscendByKey : List Row → Type 0
AscendByKey rows = Pairwise (λ (r x : Row). key_cmp r.key x.key ≡ Less) rows

-- the rows of a leaf, and their format
pub record Bucket : Type 0 where
  pub format : Format
  pub rows : List Row

-- rows in ascending order of key, each within the limits of the format
pub record IsBucket (b : Bucket) : Type 0 where
  pub ascending : AscendByKey b.rows
  pub each : AllByRecursion (FitsText b.format) b.rows

-- the rows of leaf i, if leaf gives the leaf of each key
abbrev pub rows_in_leaf : (List ℕ → ℕ) → ℕ → List Row → List Row
rows_in_leaf leaf i rows = filter (λ (r : Row). nat_eq (leaf r.key) i) rows

-- the versions that ascending rows have for a key
abbrev pub versions_in : List ℕ → List Row → List Version
versions_in k [] = []
versions_in k (r ∷ rows) = place_by (key_cmp k r.key) [] r.versions (versions_in k rows)

-- consecutive rows among others, and the first of them has the key
pub record IsRun (rows : List Row) (k : List ℕ) (run : List Row) : Type 0 where
  pub front : List Row
  pub first : Row
  pub more : List Row
  pub back : List Row
  pub rows_are : rows ≡ front ++ run ++ back
  pub run_is : run ≡ first ∷ more
  pub key : first.key ≡ k

-- a run from the row of a key, if the rows have a row of the key
abbrev pub FindsRun : List Row → List ℕ → Option (List Row) → Type 0
FindsRun rows k (Some run) = IsRun rows k run
FindsRun rows k None = (r : Row) → Contains rows r → r.key ≢ k

-- the rows after an offer of a version to the set of a key
abbrev pub with_offer : List ℕ → Version → List Row → List Row
with_offer k v [] = record { key = k; versions = offered v [] } ∷ []
with_offer k v (r ∷ rows) = place_by (key_cmp k r.key) (record { key = k; versions = offered v [] } ∷ r ∷ rows) (record { key = r.key; versions = offered v r.versions } ∷ rows) (r ∷ with_offer k v rows)

-- the row of the key is at i
pub record IsAt (k : List ℕ) (rows : List Row) (i : ℕ) : Type 0 where
  pub within : i < length rows
  pub key : (d : Row) → (slice_index_or rows i d).key ≡ k
  pub offers : (v : Version) (d : Row) → with_offer k v rows ≡ slice_set rows i (record { key = (slice_index_or rows i d).key; versions = offered v (slice_index_or rows i d).versions })
  pub holds : (d : Row) → versions_in k rows ≡ (slice_index_or rows i d).versions

-- the key has no row, and one would be inserted at i
pub record IsBetween (k : List ℕ) (rows : List Row) (i : ℕ) : Type 0 where
  pub within : i ≤ length rows
  pub offers : (v : Version) → with_offer k v rows ≡ take i rows ++ record { key = k; versions = offered v [] } ∷ drop i rows
  pub holds : versions_in k rows ≡ []

-- the place of the row of a key, or the place at which one would be inserted
abbrev pub IsPlace : List ℕ → List Row → Result ℕ ℕ → Type 0
IsPlace k rows (Ok i) = IsAt k rows i
IsPlace k rows (Err i) = IsBetween k rows i
