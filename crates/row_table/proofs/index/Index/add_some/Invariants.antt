use Rattle.std.proofs.Common.{◌≡◌, ◌≤◌, length}
use Rattle.std.specs.Vec.{vec_capacity}
use Rattle.row_table.specs.Tables.{IsIndex}
use Rattle.row_table.proofs.index.Index.add_some.Given as goal

abbrev pub invariant-loop-place : goal.invariant-loop-place
invariant-loop-place l = record {
  index : IsIndex l.fn.seed l.fn.rows l.self.size l.self.last.items l.self.earlier.items;
  whole : length l.self.last.items ≡ l.self.size;
  size : l.self.size ≡ l.fn.self.size;
  at : length l.self.earlier.items ≡ l.place;
  end : l.end ≤ length l.fn.rows;
  capacity : vec_capacity l.self.earlier ≡ vec_capacity l.fn.self.earlier;
}
