use Rattle.std.proofs.Common.{arith}
use Rattle.row_bytes.specs.Rows.{row_text}
use Rattle.hash_tree.proofs.TextLaws.{part_within}
use Rattle.hash_tree.proofs.measured_rows.texts_len.Goals as goal

pub overflow_add-len : goal.overflow_add-len
overflow_add-len c =
    let l = c.loop-row in
    omega (
      arith,
      part_within (row_text c.args.format) c.args.rows.now l.row-index c.row-item.result c.loop-row-test.true c.row-item.is,
      l.invariant,
      c.row_len-len.ensures.exact,
      c.requires.short,
    )
