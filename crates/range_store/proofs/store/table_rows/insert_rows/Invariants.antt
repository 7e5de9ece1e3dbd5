use Rattle.std.proofs.Common.{◌≡◌, ◌≤◌, ◌+◌, ◌++◌, length, map, take}
use Rattle.range_store.specs.TableRows.{row_of}
use Rattle.range_store.proofs.store.table_rows.insert_rows.Given as goal

abbrev pub invariant-loop-row : goal.invariant-loop-row
invariant-loop-row l = record {
  rows : l.table.rows ≡ l.fn.table.rows ++ map (row_of l.config.bits) (take l.row-index l.rows);
  room : length l.rows ≤ l.row-index + l.table.room;
}
