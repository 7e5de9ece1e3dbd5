use Rattle.std.proofs.Common.{◌≡◌, ◌≤◌, length}
use Rattle.row_table.specs.Tables.{with_all}
use Rattle.row_table.proofs.table.RowTable.put_all.Given as goal

abbrev pub invariant-loop-row : goal.invariant-loop-row
invariant-loop-row l = record {
  left : with_all l.self l.rows.items ≡ with_all l.fn.self l.fn.rows.items;
  room : length l.rows.items ≤ l.self.room;
}

abbrev pub decreases-loop-row : goal.decreases-loop-row
decreases-loop-row l = length l.rows.items
