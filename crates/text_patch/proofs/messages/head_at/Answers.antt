use Rattle.std.proofs.Common.{[], ◌∷◌, get_or}
use Rattle.text_patch.proofs.MessageLaws.{reads_ask, ask_of_head}
use Rattle.text_patch.proofs.messages.head_at.Goals as goal

pub returns-in_err-ask_in : goal.returns-in_err-ask_in
returns-in_err-ask_in c =
    let head = c.in_ok-first.field-0-0.now in
    rw c.from_residual-in_err-ask_in.ensures (λ a rest is e.
    let text = ask_of_head a rest c.args.fields.now head e c.in_ok-first.ensures.cases.0 in
    let read = reads_ask (2 ∷ get_or head 0 0 ∷ get_or head 1 0 ∷ get_or head 2 0 ∷ get_or head 3 0 ∷ get_or head 4 0 ∷ get_or head 5 0
    ∷ get_or head 6 0 ∷ []) a c.decode.result is text c.decode.ensures in
    c.in_err-ask_in.ensures read.0 read.1)
