use Rattle.std.proofs.Common.{length, sym, ◌∙◌, arith}
use Rattle.row_bytes.proofs.FieldLaws.{ok_is}
use Rattle.row_bytes.proofs.ManyRowLaws.{rows_takes, rows_read, no_rows_here, rows_broken_within}
use Rattle.row_bytes.proofs.reader.read_rows.Goals as goal

pub returns-in-Ok-clause-found : goal.returns-in-Ok-clause-found
returns-in-Ok-clause-found c =
    rw c.from.ensures (rows_takes c.args.format (length c.args.text.now) c.args.text.now c.in-Ok.rows.items
    (λ i. omega (arith, c.type_inv.text i)) c.in-Ok.ensures)

pub returns-in-Ok-clause-only : goal.returns-in-Ok-clause-only
returns-in-Ok-clause-only c = λ rows h e.
    c.from.ensures ∙ ok_is c.in-Ok.rows.items rows (sym c.in-Ok.ensures ∙ rows_read c.args.format c.args.text.now rows h e)

pub returns-in-Err-Left-clause-only : goal.returns-in-Err-Left-clause-only
returns-in-Err-Left-clause-only c =
    λ rows h e. absurd (no_rows_here c.args.format c.args.text.now c.in-Err-Left.left (rw c.in-Err-Left.field-0-is at c.in-Err-Left.ensures) rows h e)

pub overflow_sub-result : goal.overflow_sub-result
overflow_sub-result c = rows_broken_within c.args.format c.args.text.now c.in-Err-Left.left (rw c.in-Err-Left.field-0-is at c.in-Err-Left.ensures)

pub returns-in-Err-Left-clause-broken : goal.returns-in-Err-Left-clause-broken
returns-in-Err-Left-clause-broken c =
    let broken = rw c.in-Err-Left.field-0-is at c.in-Err-Left.ensures in
    let within = rows_broken_within c.args.format c.args.text.now c.in-Err-Left.left broken in
    record { left = c.in-Err-Left.left; broken = broken; offset_is = omega (arith, within) }
