use Rattle.std.proofs.Common.{◌≡◌, length, take}
use Rattle.std.specs.List.{flat_map}
use Rattle.row_bytes.specs.Rows.{row_text}
use Rattle.hash_tree.proofs.measured_rows.texts_len.Given as goal

abbrev pub invariant-loop-row : goal.invariant-loop-row
invariant-loop-row l = l.len ≡ length (flat_map (row_text l.format) (take l.row-index l.rows))
