use Rattle.std.proofs.Common.{List, ℕ, length, ◌++◌, drop, sym, ap}
use Rattle.std.specs.Int.{w64, to_be_bytes}
use Rattle.walk_messages.specs.Messages.{message_text}
use Rattle.walk_messages.proofs.fields.answer_parts_of.Goals as goal

pub returns-in_default : goal.returns-in_default
unfolding message_text
returns-in_default c =
    λ a is e. c.in_default.ensures (record { offer = a.offer; node = a.node }) (to_be_bytes w64 (length a.text) ++ a.text) is.1
    (sym (ap (λ (t : List ℕ). drop 1 t) e))
