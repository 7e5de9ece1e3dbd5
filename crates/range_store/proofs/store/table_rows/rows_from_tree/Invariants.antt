use Rattle.std.proofs.Common.{◌≡◌, map, take}
use Rattle.range_store.specs.TableRows.{row_from}
use Rattle.range_store.proofs.store.table_rows.rows_from_tree.Given as goal

abbrev pub invariant-loop-entry : goal.invariant-loop-entry
invariant-loop-entry l = l.rows.items ≡ map (row_from l.config.bits l.tree.map.rows) (take l.entry-index l.entries)
