-- Loading rows of a named format, of any leaves of a range: their versions are accepted as copies, all or none, so rows
-- saved before a migration can be loaded after it.
use Rattle.std.specs.Prelude.{◌≡◌, ℕ, ◌-◌, ◌+◌, ◌++◌, Bool, ◌==◌, List, length, Option, Some, None, Result, Ok, Err, if◌then◌else◌}
use Rattle.std.specs.List.{list_all}
use Rattle.vclock.specs.Outcome.{Outcome, refuses, ◌>>◌}
use Rattle.vclock.specs.declared.format.Format.{Format}
use Rattle.vclock.specs.declared.format.Format.TheVariants.{One, Two}
use Rattle.vclock.specs.declared.refusal.Refusal.{Refusal}
use Rattle.vclock.specs.declared.refusal.Refusal.TheVariants.{OtherFormat, OtherRange, RowBroken}
use Rattle.version_set.specs.declared.version.Version.{Version}
use Rattle.range_journal.specs.declared.journal.Source.TheVariants.{Copy}
use Rattle.range_journal.specs.Log.{AreNumberedFrom}
use Rattle.key_ring.specs.Places.{range_at}
use Rattle.row_bytes.specs.Rows.{AreRows}
use Rattle.row_bytes.specs.declared.row.Row.{Row}
use Rattle.range_store.specs.Config.{Config}
use Rattle.range_store.specs.Loads.{rows_in, accept_offers}
use Rattle.range_store.specs.Offers.{offers_of, accepted_in, crowded_in}
use Rattle.range_store.specs.Store.{Store, tree_in}
use Rattle.range_store.specs.declared.store.loading.Loaded.{Loaded}
use Rattle.range_store.specs.declared.store.format_loading.Spread.{Spread}

-- the fault of rows of one format for a range of the other: a range of format 1 does not accept rows of format 2
abbrev pub newer_fault : Format → Format → Option Refusal
newer_fault One One = None
newer_fault One Two = Some OtherFormat
newer_fault Two format = None

-- all keys belong to the range
abbrev pub are_here : Config → List Row → Bool
are_here c rows = list_all (λ (r : Row). range_at c.bits r.key == c.range) rows

-- the fault of rows of another range
abbrev pub astray_fault : Config → List Row → Option Refusal
astray_fault c rows = if are_here c rows then None else Some OtherRange

-- the versions of rows are accepted
abbrev pub load_rows : Store → ℕ → List Row → Outcome Loaded Store
load_rows s seat rows = do
  astray_fault s.config rows
  accept_offers s seat Copy (offers_of rows)

-- the load of rows that were read from a text of this many bytes
abbrev pub load_rows_read : Store → ℕ → ℕ → Result (List Row) ℕ → Outcome Loaded Store
load_rows_read s seat len (Ok rows) = load_rows s seat rows
load_rows_read s seat len (Err left) = refuses (RowBroken (len - left))

-- the rows that a text of a format spells are loaded
abbrev pub load_format : Store → ℕ → Format → List ℕ → Outcome Loaded Store
load_format s seat format text = do
  newer_fault s.config.format format
  load_rows_read s seat (length text) (rows_in format text)

-- the number of versions that were looked at
abbrev pub seen_count : Spread → ℕ
seen_count spread = length spread.entries.items + spread.known

-- the tree and the entries after these versions were accepted in their turn, with none refused
pub record IsSpread (s : Store) (seat : ℕ) (offers : List (List ℕ × Version)) (spread : Spread) : Type 0 where
  pub tree : spread.tree ≡ tree_in (accepted_in s seat Copy offers)
  pub entries : s.entries ++ spread.entries.items ≡ (accepted_in s seat Copy offers).entries
  pub numbered : AreNumberedFrom (length s.entries) spread.entries.items
  pub fits : crowded_in s seat Copy offers ≡ None
  pub count : seen_count spread ≡ length offers

-- all versions of rows of the range are prepared
pub record IsSpreadable (s : Store) (seat : ℕ) (rows : List Row) (spread : Spread) : Type 0 where
  pub format : Format
  pub older : newer_fault s.config.format format ≡ None
  pub rows_are : AreRows format rows
  pub here : astray_fault s.config rows ≡ None
  pub spread_is : IsSpread s seat (offers_of rows) spread
