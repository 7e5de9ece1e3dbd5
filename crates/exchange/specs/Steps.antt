-- The steps of a course: whatever its owner calls, and whatever a partner sends.
use Rattle.std.specs.Prelude.{◌≡◌, ℕ, Bool, true, false, List, [], ◌∷◌, Option, Result}
use Rattle.vclock.specs.declared.refusal.Refusal.{Refusal}
use Rattle.vclock.specs.declared.format.Format.{Format}
use Rattle.tree_nodes.specs.Nodes.{Node}
use Rattle.walk_messages.specs.declared.message.Answer.{Answer}
use Rattle.walk_messages.specs.declared.message.Offer.{Offer}
use Rattle.sync_session.specs.Walks.{Walk}
use Rattle.range_state.specs.declared.event.AnswerTaken.{AnswerTaken}
use Rattle.exchange.specs.declared.bounds.Bounds.{Bounds}
use Rattle.exchange.specs.Standings.{standing_of, may_take, is_sent}
use Rattle.exchange.specs.Courses.{Course, is_over, begun, unasked, after_loss, retracted, after_go_on, closed}
use Rattle.exchange.specs.Asks.{next_in, after_ask}
use Rattle.exchange.specs.Answers.{sorted, judged}

-- a call of the owner: for the next ask of a session at any point of its walk, for a lost ask, to resume or to close;
-- an ask that is withdrawn, since it was an outline that brought no text; and a partner's answer, which is sorted and,
-- if it was due, judged by its session's result
pub data Step : Type 0 where
  Asks : Walk → Step
  Loses : Node → Step
  Retracts : Node → Step
  GoesOn : Step
  Closes : Step
  Sorts : Option Answer → Step
  Judges : Node → Bool → ℕ → Result AnswerTaken Refusal → Step

-- the course after a step
abbrev pub after : Course → Step → Course
after x (Asks w) = after_ask x (next_in x w)
after x (Loses n) = after_loss x n
after x (Retracts n) = retracted x n
after x GoesOn = after_go_on x
after x Closes = closed x
after x (Sorts read) = (sorted x read).1
after x (Judges n leaf len said) = (judged x n leaf len said).1

-- a step is possible: no answer is sorted or judged when the course is over, only a due one is judged, and only an ask
-- in progress is withdrawn
abbrev pub May : Course → Step → Type 0
May x (Sorts read) = is_over x ≡ false
May x (Judges n leaf len said) = (is_over x ≡ false) × (may_take (standing_of x.standings n) ≡ true)
May x (Retracts n) = is_sent (standing_of x.standings n) ≡ true
May x (Asks w) = Unit {0}
May x (Loses n) = Unit {0}
May x GoesOn = Unit {0}
May x Closes = Unit {0}

-- each step of a list is possible, in turn
abbrev pub MayAll : Course → List Step → Type 0
MayAll x [] = Unit {0}
MayAll x (step ∷ steps) = May x step × MayAll (after x step) steps

abbrev pub after_all : Course → List Step → Course
after_all x [] = x
after_all x (step ∷ steps) = after_all (after x step) steps

-- the course at the start
abbrev pub at_start : Offer → Bounds → Format → Course
at_start offer bounds format = begun offer bounds (unasked format)
