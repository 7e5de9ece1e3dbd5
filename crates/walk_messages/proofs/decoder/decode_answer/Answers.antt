use Rattle.std.proofs.lemmas.Result.{err_from_is_err_and}
use Rattle.walk_messages.specs.declared.message.Answer.{Answer}
use Rattle.walk_messages.proofs.TextLaws.{wants_memory}
use Rattle.walk_messages.proofs.decoder.decode_answer.Goals as goal

pub returns-in_err-copy_of : goal.returns-in_err-copy_of
returns-in_err-copy_of c =
    let p = err_from_is_err_and c.from_residual.result c.from_residual.ensures.1 in
    let answer : Answer = record { offer = c.in-Some.head.offer; node = c.in-Some.head.node; text = c.in-Some.text.now } in
    rw (p.1, p.2) (wants_memory _ answer c.in_err-copy_of.field-0.0 c.in-Some.ensures.0 c.in-Some.ensures.1 c.in_err-copy_of.ensures)
