-- The bytes of messages.
use Rattle.std.specs.Prelude.{ℕ, List, Result}
use Rattle.vclock.specs.declared.refusal.Refusal.{Refusal}
use Rattle.walk_messages.specs.Messages.{Decodes}
use Rattle.walk_messages.specs.declared.message.Message.{Message}

-- A statement about the bytes of a message, by their decoding.
pub record Reads (bytes : List ℕ) (Right : Result Message Refusal → Type 0) : Type 0 where
  pub decoded : Result Message Refusal
  pub decodes : Decodes bytes decoded
  pub right : Right decoded
