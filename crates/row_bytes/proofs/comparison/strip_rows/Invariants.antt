use Rattle.std.proofs.Common.{◌≡◌, ◌++◌, take}
use Rattle.std.specs.List.{flat_map}
use Rattle.row_bytes.specs.Rows.{row_text}
use Rattle.row_bytes.proofs.comparison.strip_rows.Given as goal

abbrev pub invariant-loop-row : goal.invariant-loop-row
invariant-loop-row l = record {
  count_is : l.count ≡ l.row-index;
  text_is : l.text ≡ flat_map (row_text l.format) (take l.row-index l.rows) ++ l.rest;
}
