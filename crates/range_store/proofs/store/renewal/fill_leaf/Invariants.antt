use Rattle.std.proofs.Common.{◌≡◌, ◌++◌, ◌≤◌, length, map}
use Rattle.std.specs.List.{AllByRecursion}
use Rattle.row_bytes.specs.declared.row.Row.{Row}
use Rattle.range_store.specs.Offers.{offers_of}
use Rattle.range_store.specs.Store.{leaf_in}
use Rattle.range_store.specs.Renewals.{with_copies}
use Rattle.range_store.specs.TableRows.{row_of}
use Rattle.range_store.proofs.store.renewal.fill_leaf.Given as goal

abbrev pub invariant-loop-run : goal.invariant-loop-run
invariant-loop-run l = record {
  entries : with_copies l.journal l.seat (offers_of l.runs) ≡ with_copies l.fn.journal l.seat (offers_of l.rows.rows);
  room : length (offers_of l.runs) ≤ l.journal.room;
  rows : l.table.rows ++ map (row_of l.config.bits) l.runs ≡ l.fn.table.rows ++ map (row_of l.config.bits) l.rows.rows;
  homes : AllByRecursion (λ (r : Row). leaf_in l.config r.key ≡ l.leaf) l.runs;
}

abbrev pub decreases-loop-run : goal.decreases-loop-run
decreases-loop-run l = length l.runs
