use Rattle.std.proofs.Common.{◌≡◌, ◌++◌, ◌≤◌, take}
use Rattle.std.specs.List.{flat_map}
use Rattle.std.specs.Vec.{vec_capacity}
use Rattle.row_bytes.specs.Rows.{row_text}
use Rattle.hash_tree.proofs.texts.put_rows.Given as goal

abbrev pub invariant-loop-row : goal.invariant-loop-row
invariant-loop-row l = record {
  so_far : l.out.items ≡ l.initial.out.items ++ flat_map (row_text l.format) (take l.row-index l.rows);
  grows : vec_capacity l.initial.out ≤ vec_capacity l.out;
}
