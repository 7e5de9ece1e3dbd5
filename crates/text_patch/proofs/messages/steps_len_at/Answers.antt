use Rattle.std.proofs.Common.{arith}
use Rattle.walk_messages.proofs.FieldLaws.{eight_stood}
use Rattle.text_patch.proofs.messages.steps_len_at.Goals as goal

pub returns : goal.returns
returns c =
    let parts = c.in_ok-len.ensures.cases in
    eight_stood c.from_be_bytes.result c.args.bytes.now c.in_ok-len.len.now c.in_ok-len.rest.now (λ i. omega (arith, c.type_inv.bytes i))
    (omega (arith, parts.2)) parts.0 parts.1 c.from_be_bytes.ensures
