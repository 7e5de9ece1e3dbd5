-- What a call that decodes a message owes, from what its parts did.
use Rattle.std.proofs.Common.{ℕ, List}
use Rattle.std.specs.Prelude.{Result}
use Rattle.vclock.specs.declared.refusal.Refusal.{Refusal}
use Rattle.walk_messages.specs.Messages.{Decodes}
use Rattle.walk_messages.specs.declared.message.Message.{Message}
use Rattle.c_calls.specs.Reads.{Reads}

-- what the bytes decode to
pub reads : (bytes : List ℕ) (Right : Result Message Refusal → Type 0) (d : Result Message Refusal) → Decodes bytes d → Right d → Reads bytes Right
reads bytes Right d decodes right = record { decoded = d; decodes = decodes; right = right }
