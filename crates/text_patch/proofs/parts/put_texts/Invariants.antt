use Rattle.std.proofs.Common.{◌≡◌, ◌++◌, map, take}
use Rattle.row_bytes.specs.Rows.{row_text}
use Rattle.text_patch.proofs.parts.put_texts.Given as goal

abbrev pub invariant-loop-row : goal.invariant-loop-row
invariant-loop-row l = l.parts.items ≡ l.initial.parts.items ++ map (row_text l.format) (take l.row-index l.rows)
