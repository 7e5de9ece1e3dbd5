-- The messages of an offer, and of the answers to asks and outlines.
use Rattle.std.specs.Prelude.{◌≡◌, ◌⊎◌, ℕ, ◌==◌, List, Result, Ok, Err, MatchBool}
use Rattle.vclock.specs.Answer.{Answers}
use Rattle.vclock.specs.Format.{format_number}
use Rattle.vclock.specs.declared.refusal.Refusal.{Refusal}
use Rattle.vclock.specs.declared.refusal.Refusal.TheVariants.{BadMessage, Gone}
use Rattle.walk_messages.specs.Messages.{message_text}
use Rattle.walk_messages.specs.declared.message.Answer.{Answer}
use Rattle.walk_messages.specs.declared.message.Ask.{Ask}
use Rattle.walk_messages.specs.declared.message.Offer.{Offer}
use Rattle.walk_messages.specs.declared.message.Message.{Message}
use Rattle.walk_messages.specs.declared.message.Message.TheVariants as messages
use Rattle.snapshot.specs.RowMaps.{RowMap, root_of, text_at}
use Rattle.snapshot.specs.Snapshots.{answer_fault}
use Rattle.text_patch.specs.Marks.{MarkList}
use Rattle.text_patch.specs.Messages.{patch_of, IsOutlineOf}
use Rattle.c_calls.specs.Reads.{Reads}

-- the offer of some rows
abbrev pub offer_numbered : ℕ → RowMap → Offer
offer_numbered number m = record { offer = number; format = format_number m.format; range = m.range; root = root_of m }

-- the answer to an ask
abbrev pub answer_of : RowMap → Ask → Answer
answer_of m ask = record { offer = ask.offer; node = ask.node; text = text_at m ask.node.depth ask.node.index }

-- an ask for the offer of that number is answered; for another offer the result is Gone
abbrev pub ServesAsk : RowMap → ℕ → Ask → Result (List ℕ) Refusal → Type 0
ServesAsk m number ask r = MatchBool (ask.offer == number)
    (Answers r (answer_fault m ask.node) (λ bytes. bytes ≡ message_text (messages.Answer (answer_of m ask))))
    (r ≡ Err Gone)

-- a decoded message is answered if it is an ask
abbrev pub Serves : RowMap → ℕ → Result (List ℕ) Refusal → Result Message Refusal → Type 0
Serves m number r (Ok (messages.Ask ask)) = ServesAsk m number ask r
Serves m number r (Ok (messages.Offer offer)) = r ≡ Err BadMessage
Serves m number r (Ok (messages.Answer answer)) = r ≡ Err BadMessage
Serves m number r (Err e) = r ≡ Err e

-- an outline for the offer of that number gets a patch; for another offer the result is Gone
abbrev pub ServesOutline : RowMap → ℕ → Ask → MarkList → Result (List ℕ) Refusal → Type 0
ServesOutline m number ask marks r = MatchBool (ask.offer == number)
    (Answers r (answer_fault m ask.node) (λ bytes. bytes ≡ patch_of m ask marks))
    (r ≡ Err Gone)

-- the bytes are an outline
pub record ServesMarks (m : RowMap) (number : ℕ) (bytes : List ℕ) (r : Result (List ℕ) Refusal) : Type 0 where
  pub ask : Ask
  pub marks : MarkList
  pub is : IsOutlineOf bytes ask marks
  pub served : ServesOutline m number ask marks r

-- the bytes are not an outline
pub record ServesOther (m : RowMap) (number : ℕ) (bytes : List ℕ) (r : Result (List ℕ) Refusal) : Type 0 where
  pub other : (ask : Ask) (marks : MarkList) → IsOutlineOf bytes ask marks → ⊥
  pub served : Reads bytes (Serves m number r)

-- the bytes of an outline or of a message are answered
unfoldable pub ServesBytes : RowMap → ℕ → List ℕ → Result (List ℕ) Refusal → Type 0
ServesBytes m number bytes r = ServesMarks m number bytes r ⊎ ServesOther m number bytes r
