-- Renewed ranges: a new range that begins with the versions that another one holds.
use Rattle.std.specs.Prelude.{◌≡◌, ℕ, ◌+◌, ◌-◌, ◌≤◌, nat_lt, List, [], ◌∷◌, ◌++◌, length, Option, Some, None, if◌then◌else◌}
use Rattle.std.specs.List.{flat_map, range_with_len}
use Rattle.vclock.specs.declared.refusal.Refusal.{Refusal}
use Rattle.vclock.specs.declared.refusal.Refusal.TheVariants.{BadRing, JournalFull}
use Rattle.version_set.specs.declared.version.Version.{Version}
use Rattle.range_journal.specs.Log.{Log}
use Rattle.range_journal.specs.declared.journal.Entry.{Entry}
use Rattle.range_journal.specs.declared.journal.Source.TheVariants.{Copy}
use Rattle.row_bytes.specs.declared.row.Row.{Row}
use Rattle.hash_tree.specs.Leaves.{rows_in_leaf}
use Rattle.snapshot.specs.RowMaps.{RowMap}
use Rattle.range_store.specs.Config.{Config, is_config}
use Rattle.range_store.specs.Rows.{rows_of}
use Rattle.range_store.specs.Store.{Store, leaf_in, leaf_count, IsSound}
use Rattle.range_store.specs.Offers.{offers_of}

-- entries of these keys and versions, as copies by a seat, numbered from n on
abbrev pub copies_from : ℕ → ℕ → List (List ℕ × Version) → List Entry
copies_from n seat [] = []
copies_from n seat (o ∷ os) = record { number = n; seat = seat; source = Copy; key = o.0; version = o.1 } ∷ copies_from (n + 1) seat os

-- rows leaf by leaf, in each leaf in their order
abbrev pub by_leaf : Config → List Row → List Row
by_leaf c rows = flat_map (λ leaf. rows_in_leaf (leaf_in c) leaf rows) (range_with_len 0 (leaf_count c))

-- rows have the format and the ring bits of a configuration
pub record IsOfConfig (c : Config) (m : RowMap) : Type 0 where
  pub format : m.format ≡ c.format
  pub bits : m.bits ≡ c.bits

-- the keys and versions of rows, leaf by leaf, row by row, version by version
abbrev pub offers_by_leaf : Config → List Row → List (List ℕ × Version)
offers_by_leaf c rows = offers_of (by_leaf c rows)

-- the keys and versions that are held
abbrev pub held_offers : Store → List (List ℕ × Version)
held_offers s = offers_by_leaf s.config (rows_of s.entries)

-- the configuration with another limit
abbrev pub config_to : Config → ℕ → Config
config_to c limit = record c { limit = limit }

-- a state that begins with the versions that s holds, as copies by a seat: it has the rows of s, so a clean node stays
-- clean with the same digest
abbrev pub renewed_by : Store → ℕ → ℕ → Store
renewed_by s seat limit = record { config = config_to s.config limit; entries = copies_from 0 seat (held_offers s); marks = s.marks }

-- the fault of versions that are more than a limit
abbrev pub count_fault : Config → List Row → ℕ → Option Refusal
count_fault c rows limit = if nat_lt limit (length (offers_by_leaf c rows)) then Some JournalFull else None

abbrev pub short_fault : Store → ℕ → Option Refusal
short_fault s limit = count_fault s.config (rows_of s.entries) limit

-- the fault of a limit: no range has it, or fewer entries than the versions of these rows
abbrev pub limit_fault : Config → List Row → ℕ → Option Refusal
limit_fault c rows limit = if is_config (config_to c limit) then count_fault c rows limit else Some BadRing

-- the fault of a limit for the versions that are held
abbrev pub renew_fault : Store → ℕ → Option Refusal
renew_fault s limit = limit_fault s.config (rows_of s.entries) limit

-- the journal with these keys and versions at its end, as copies by a seat
abbrev pub with_copies : Log → ℕ → List (List ℕ × Version) → Log
with_copies log seat offers = record { entries = log.entries ++ copies_from (length log.entries) seat offers; limit = log.limit; room = log.room - length offers }

-- ---- renewals alongside the puts

-- the rows with which a new range begins, the configuration of the range that has them, and by place the digests of the
-- clean nodes of their tree
pub record Basis : Type 0 where
  pub config : Config
  pub rows : List Row
  pub marks : List (Option (List ℕ))

-- the rows are made by the entries of a sound store
pub record IsBasis (b : Basis) : Type 0 where
  pub entries : List Entry
  pub sound : IsSound (record { config = b.config; entries = entries; marks = b.marks })
  pub rows : b.rows ≡ rows_of entries
  pub few : length entries ≤ 1000000

-- a state that begins with these rows, as copies by a seat
abbrev pub begun_by : Basis → ℕ → ℕ → Store
begun_by b seat limit = record { config = config_to b.config limit; entries = copies_from 0 seat (offers_by_leaf b.config b.rows); marks = b.marks }

-- the fault of a limit for the versions of these rows
abbrev pub basis_fault : Basis → ℕ → Option Refusal
basis_fault b limit = limit_fault b.config b.rows limit
