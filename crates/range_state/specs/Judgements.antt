-- The judgement of a partner's leaf, row by row.
use Rattle.std.specs.Prelude.{◌≡◌, ℕ, ◌+◌, false, nat_eq, List, length, Option, Some, None, Result, Ok, Err}
use Rattle.std.specs.Cmp.Lexicographic.{pointwise}
use Rattle.std.specs.List.{AllByRecursion}
use Rattle.vclock.specs.declared.refusal.Refusal.{Refusal}
use Rattle.vclock.specs.declared.refusal.Refusal.TheVariants as refusals
use Rattle.range_journal.specs.declared.journal.Source.TheVariants.{Partner}
use Rattle.row_bytes.specs.declared.row.Row.{Row}
use Rattle.snapshot.specs.RowMaps.{RowMap}
use Rattle.tree_nodes.specs.Nodes.{Node}
use Rattle.sync_session.specs.Walks.{AreSpelled}
use Rattle.range_store.specs.Store.{Store}
use Rattle.range_store.specs.Offers.{offers_of, crowded_in}
use Rattle.range_state.specs.Sessions.{taken_in, leaf_fault}

-- none of these rows has the key of a row
abbrev pub HasOtherKeys : Row → List Row → Type 0
HasOtherKeys r rows = AllByRecursion (λ (x : Row). pointwise nat_eq x.key r.key ≡ false) rows

-- the number of new versions of rows, each in its turn; None if one of them would be too many for its key
abbrev pub IsCounted : Store → ℕ → List Row → Option ℕ → Type 0
IsCounted s seat rows (Some n) = (crowded_in s seat Partner (offers_of rows) ≡ None) × (length (taken_in s seat (offers_of rows)).entries ≡ length s.entries + n)
IsCounted s seat rows None = crowded_in s seat Partner (offers_of rows) ≡ Some refusals.Crowded

-- the rows of a leaf's text have this fault
abbrev pub IsRowsFault : Store → ℕ → RowMap → Node → List ℕ → Option Refusal → Type 0
IsRowsFault s seat m n text fault = (rows : List Row) × AreSpelled m n text rows × (leaf_fault s seat (offers_of rows) ≡ fault)

-- the result of judging a leaf's text
abbrev pub JudgesLeaf : Store → ℕ → RowMap → Node → List ℕ → Result (Unit {0}) Refusal → Type 0
JudgesLeaf s seat m n text (Ok ok) = IsRowsFault s seat m n text None
JudgesLeaf s seat m n text (Err refusals.NotCanonical) = (rows : List Row) → AreSpelled m n text rows → ⊥
JudgesLeaf s seat m n text (Err refusals.Crowded) = IsRowsFault s seat m n text (Some refusals.Crowded)
JudgesLeaf s seat m n text (Err refusals.JournalFull) = IsRowsFault s seat m n text (Some refusals.JournalFull)
JudgesLeaf s seat m n text (Err e) = e ≡ refusals.NoMemory
