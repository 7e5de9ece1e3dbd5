use Rattle.std.proofs.Common.{◌≡◌, ◌++◌, map}
use Rattle.range_store.specs.Offers.{offers_of}
use Rattle.range_store.specs.Store.{leaf_in}
use Rattle.range_store.specs.Renewals.{with_copies}
use Rattle.range_store.specs.TableRows.{row_of}
use Rattle.range_store.proofs.RenewLaws.{leaves_from}
use Rattle.range_store.proofs.store.renewal.fill.Given as goal

abbrev pub invariant-loop-leaf : goal.invariant-loop-leaf
invariant-loop-leaf l = record {
  entries : l.journal ≡ with_copies l.fn.journal l.seat (offers_of (leaves_from (leaf_in l.config) l.tree.map.rows 0 l.leaf));
  rows : l.table.rows ≡ l.fn.table.rows ++ map (row_of l.config.bits) (leaves_from (leaf_in l.config) l.tree.map.rows 0 l.leaf);
}
