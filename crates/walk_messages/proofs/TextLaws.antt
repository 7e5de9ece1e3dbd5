-- What the texts of messages begin with, and what an answer's want of memory says.
use Rattle.std.proofs.Common.{◌≡◌, ◌≢◌, ℕ, List, ◌<◌, length, arith, get_or, sym, ap, inl, inr}
use Rattle.std.specs.Prelude.{◌⊎◌, Option, Some, None, Err}
use Rattle.vclock.specs.declared.refusal.Refusal.{Refusal}
use Rattle.vclock.specs.declared.refusal.Refusal.TheVariants.{NoMemory}
use Rattle.walk_messages.specs.declared.message.Answer.{Answer}
use Rattle.walk_messages.specs.declared.message.Message.{Message}
use Rattle.walk_messages.specs.declared.message.Message.TheVariants as messages
use Rattle.walk_messages.specs.Messages.{IsMessage, message_text, Decodes}

-- what begins otherwise than messages do is none
pub none_begins_so : (bytes : List ℕ) → get_or bytes 0 0 ≢ 1 → get_or bytes 0 0 ≢ 2 → get_or bytes 0 0 ≢ 3 → (m : Message) → message_text m ≡ bytes
    → ⊥
unfolding message_text
none_begins_so bytes one two three (messages.Offer o) e = one (sym (ap (λ (t : List ℕ). get_or t 0 0) e))
none_begins_so bytes one two three (messages.Ask a) e = two (sym (ap (λ (t : List ℕ). get_or t 0 0) e))
none_begins_so bytes one two three (messages.Answer a) e = three (sym (ap (λ (t : List ℕ). get_or t 0 0) e))

-- no bytes are no message
pub no_bytes_are_none : (bytes : List ℕ) → length bytes < 1 → (m : Message) → message_text m ≡ bytes → ⊥
unfolding message_text
no_bytes_are_none bytes short (messages.Offer o) e = omega (arith, ap (λ (t : List ℕ). length t) e)
no_bytes_are_none bytes short (messages.Ask a) e = omega (arith, ap (λ (t : List ℕ). length t) e)
no_bytes_are_none bytes short (messages.Answer a) e = omega (arith, ap (λ (t : List ℕ). length t) e)

-- no cause
abbrev none : Option Refusal
none = None

-- where an answer has these bytes, a call that takes memory fails for want of it alone
pub wants_memory : (bytes : List ℕ) (a : Answer) (e : Refusal) → IsMessage (messages.Answer a) → message_text (messages.Answer a) ≡ bytes
    → ((none ≡ None) × (e ≡ NoMemory)) ⊎ (none ≡ Some e) → Decodes bytes (Err e)
wants_memory bytes a e fits is (inl p) = rw p.1 (a, fits, is)
wants_memory bytes a e fits is (inr p) = absurd (cc)
