use Rattle.std.proofs.Common.{ap, sym, ◌∙◌, arith}
use Rattle.row_bytes.specs.Reading.{row_at}
use Rattle.row_bytes.proofs.FieldLaws.{ok_is}
use Rattle.row_bytes.proofs.RowLaws.{row_takes, row_again, none_here, broken_within}
use Rattle.row_bytes.proofs.reader.read_row.Goals as goal

pub returns-in-Ok-clause-found : goal.returns-in-Ok-clause-found
returns-in-Ok-clause-found c =
    let t = row_takes c.args.format c.args.text.now (c.in-Ok.row, c.in-Ok.rest.now) (λ i. omega (arith, c.type_inv.text i)) c.in-Ok.ensures in
    (t.1, t.0.parts)

pub returns-in-Ok-clause-only : goal.returns-in-Ok-clause-only
returns-in-Ok-clause-only c = λ r rest h e.
    ok_is (c.in-Ok.row, c.in-Ok.rest.now) (r, rest) (sym c.in-Ok.ensures ∙ (ap (row_at c.args.format) e ∙ row_again c.args.format r rest h))

pub returns-in-Err-Left-clause-only : goal.returns-in-Err-Left-clause-only
returns-in-Err-Left-clause-only c =
    λ r rest h e. absurd (none_here c.args.format c.args.text.now c.in-Err-Left.left
    (rw c.in-Err-Left.field-0-is at c.in-Err-Left.ensures) r rest h e)

pub overflow_sub-result : goal.overflow_sub-result
overflow_sub-result c = broken_within c.args.format c.args.text.now c.in-Err-Left.left (rw c.in-Err-Left.field-0-is at c.in-Err-Left.ensures)

pub returns-in-Err-Left-clause-broken : goal.returns-in-Err-Left-clause-broken
returns-in-Err-Left-clause-broken c =
    let broken = rw c.in-Err-Left.field-0-is at c.in-Err-Left.ensures in
    let within = broken_within c.args.format c.args.text.now c.in-Err-Left.left broken in
    record { left = c.in-Err-Left.left; broken = broken; offset_is = omega (arith, within) }
