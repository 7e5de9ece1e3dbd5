-- Loading: the versions of the rows of one leaf, read from their texts, are accepted as copies, all or none.
use Rattle.std.specs.Prelude.{◌≡◌, ℕ, ◌+◌, ◌-◌, ◌<◌, Bool, ◌==◌, ◌&&◌, List, [], ◌∷◌, length, map, Option, Some, None, Result, Ok, Err, if◌then◌else◌}
use Rattle.std.specs.List.{AllByRecursion, list_all, range_with_len}
use Rattle.vclock.specs.Outcome.{Outcome, gives, refuses, ◌>>=◌, ◌>>◌}
use Rattle.vclock.specs.declared.format.Format.{Format}
use Rattle.vclock.specs.declared.refusal.Refusal.{Refusal}
use Rattle.vclock.specs.declared.refusal.Refusal.TheVariants.{OtherRange, RowBroken}
use Rattle.version_set.specs.declared.version.Version.{Version}
use Rattle.range_journal.specs.declared.journal.Source.{Source}
use Rattle.range_journal.specs.declared.journal.Source.TheVariants.{Copy}
use Rattle.key_ring.specs.Places.{range_at}
use Rattle.row_bytes.specs.Rows.{AreRows}
use Rattle.row_bytes.specs.Reading.{rows_at}
use Rattle.row_bytes.specs.declared.row.Row.{Row}
use Rattle.hash_tree.specs.Leaves.{rows_in_leaf}
use Rattle.range_store.specs.Config.{Config}
use Rattle.range_store.specs.Rows.{rows_of}
use Rattle.range_store.specs.Offers.{offers_of, accepted_in, accept_fault}
use Rattle.range_store.specs.Store.{Store, leaf_in, leaf_count}
use Rattle.range_store.specs.declared.store.loading.Loaded.{Loaded}

-- rows for a leaf of a range
pub record RowsFor : Type 0 where
  pub config : Config
  pub leaf : ℕ
  pub rows : List Row

-- a key of the range, and of this leaf
abbrev pub is_home : Config → ℕ → List ℕ → Bool
is_home c leaf key = range_at c.bits key == c.range && leaf_in c key == leaf

-- the leaf of the first row
abbrev pub first_leaf : Config → List Row → ℕ
first_leaf c [] = 0
first_leaf c (r ∷ rows) = leaf_in c r.key

-- the fault of rows of another range, or of two leaves
abbrev pub apart_fault : Config → List Row → Option Refusal
apart_fault c rows = if list_all (λ r. is_home c (first_leaf c rows) r.key) rows then None else Some OtherRange

-- rows of a leaf of the range: they have texts, their keys ascend, and each key belongs to the leaf
pub record AreLeafRows (c : Config) (leaf : ℕ) (rows : List Row) : Type 0 where
  pub are : AreRows c.format rows
  pub inside : leaf < leaf_count c
  pub range : AllByRecursion (λ (r : Row). range_at c.bits r.key ≡ c.range) rows
  pub leaf_is : AllByRecursion (λ (r : Row). leaf_in c r.key ≡ leaf) rows

-- the rows that a text spells, or the number of bytes from the broken field on
abbrev pub rows_in : Format → List ℕ → Result (List Row) ℕ
rows_in format text = rows_at format (length text) [] [] text

-- the fault of a text of this many bytes that was read as these rows, or has a broken field
abbrev pub read_fault : Config → ℕ → Result (List Row) ℕ → Option Refusal
read_fault c len (Ok rows) = apart_fault c rows
read_fault c len (Err left) = Some (RowBroken (len - left))

-- the counts of the versions that a store accepted, and of the rest
abbrev pub loaded : Store → Store → List (List ℕ × Version) → Loaded
loaded s new offers = record { taken = length new.entries - length s.entries; known = (length s.entries + length offers) - length new.entries }

-- versions are accepted, each in its turn, all or none
abbrev pub accept_offers : Store → ℕ → Source → List (List ℕ × Version) → Outcome Loaded Store
accept_offers s seat source offers = do
  accept_fault s seat source offers
  gives (loaded s (accepted_in s seat source offers) offers) (accepted_in s seat source offers)

-- the versions of rows of one leaf are accepted
abbrev pub load : Store → ℕ → List Row → Outcome Loaded Store
load s seat rows = do
  apart_fault s.config rows
  accept_offers s seat Copy (offers_of rows)

-- the load of rows that were read from a text of this many bytes
abbrev pub load_read : Store → ℕ → ℕ → Result (List Row) ℕ → Outcome Loaded Store
load_read s seat len (Ok rows) = load s seat rows
load_read s seat len (Err left) = refuses (RowBroken (len - left))

-- the rows that a text spells are loaded
abbrev pub load_text : Store → ℕ → List ℕ → Outcome Loaded Store
load_text s seat text = load_read s seat (length text) (rows_in s.config.format text)

-- the rows of each leaf, leaf by leaf
abbrev pub leaves_of : Store → List (List Row)
leaves_of s = map (λ leaf. rows_in_leaf (leaf_in s.config) leaf (rows_of s.entries)) (range_with_len 0 (leaf_count s.config))

-- lists of rows are loaded in turn, until one is refused
abbrev pub load_all : Store → ℕ → List (List Row) → Outcome (Unit {0}) Store
load_all s seat [] = gives tt s
load_all s seat (rows ∷ more) = do
  one ← load s seat rows
  load_all one.1 seat more
