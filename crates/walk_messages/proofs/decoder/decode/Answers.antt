use Rattle.std.proofs.Common.{arith, rules}
use Rattle.walk_messages.proofs.TextLaws.{none_begins_so, no_bytes_are_none}
use Rattle.walk_messages.proofs.decoder.decode.Goals as goal
use Rattle.walk_messages.proofs.decoder.decode.Goals.{in_default-via-then-bytes-lt1, in_default-via-else-bytes-lt1+in_default-1}

pub returns-in_default : goal.returns-in_default
returns-in_default c = λ m fits e.
    elim c.in_default.branch [
      | in_default-via-then-bytes-lt1 w ↦ no_bytes_are_none c.args.bytes.now (search rules) m e
      | in_default-via-else-bytes-lt1+in_default-1 w ↦ none_begins_so c.args.bytes.now (omega arith) (omega arith) (omega arith) m e
    ]
