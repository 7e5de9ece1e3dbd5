use Rattle.std.proofs.Common.{◌<◌, ◌+◌, length, subst}
use Rattle.std.specs.Vec.{vec_capacity}
use Rattle.row_bytes.specs.declared.row.Row.{Row}
use Rattle.row_bytes.specs.Rows.{row_text}
use Rattle.row_bytes.proofs.TextLengthLaws.{on_err, lacks_room}
use Rattle.hash_tree.proofs.texts.put_rows.Goals as goal

pub returns-in_err-put_row-clause-room : goal.returns-in_err-put_row-clause-room
returns-in_err-put_row-clause-room c =
    let l = c.loop-row in
    let full = subst (λ (r : Row). vec_capacity l.out < length l.out.items + length (row_text c.args.format r)) c.row-item.is
    c.in_err-put_row.ensures.room in
    on_err _ (lacks_room (row_text c.args.format) c.args.rows.now l.row-index c.row-item.result c.args.out.now.items l.out.items _ _
    c.loop-row-test.true l.invariant.so_far l.invariant.grows full)
