use Rattle.std.proofs.Common.{◌≡◌, ◌++◌, map, length}
use Rattle.std.specs.List.{AllByRecursion}
use Rattle.row_bytes.specs.Rows.{row_text, FitsText}
use Rattle.text_patch.specs.Parts.{parts_at}
use Rattle.text_patch.proofs.parts.rows_of.Given as goal

abbrev pub invariant-loop-rows : goal.invariant-loop-rows
invariant-loop-rows l = record {
  all : l.parts.items ++ map (row_text l.format) l.runs ≡ parts_at l.own l.fn.node;
  fit : AllByRecursion (FitsText l.format) l.runs;
}

abbrev pub decreases-loop-rows : goal.decreases-loop-rows
decreases-loop-rows l = length l.runs
