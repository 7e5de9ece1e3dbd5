-- The receipts of a caller that keeps them in a list.
use Rattle.std.specs.Prelude.{◌≡◌, ℕ, List, ◌++◌, length, Result, Ok, Err}
use Rattle.vclock.specs.declared.refusal.Refusal.{Refusal}
use Rattle.range_journal.specs.declared.journal.Entry.{Entry}
use Rattle.sync_session.specs.Walks.{TakenText}
use Rattle.range_state.specs.declared.event.AnswerTaken.{AnswerTaken}
use Rattle.range_state.specs.declared.event.AnswerCounted.{AnswerCounted}
use Rattle.range_state.specs.State.{State}
use Rattle.range_state.specs.Sessions.{TakesAnswer}

-- the outcome, with the receipts replaced by their number
abbrev pub count_of : AnswerTaken → AnswerCounted
count_of a = record { receipts = length a.receipts.items; known = a.known; state = a.state }

-- a text was taken, its receipts are counted, and they are at the end of the list
pub record IsCounted (s : State) (seat id : ℕ) (t : TakenText) (a : AnswerCounted) (new : State) (before now : List Entry) : Type 0 where
  pub taken : AnswerTaken
  pub takes : TakesAnswer s seat id t (Ok taken) new
  pub count : a ≡ count_of taken
  pub appended : now ≡ before ++ taken.receipts.items

-- the result of a text whose receipts go to a list, and the state and the list afterwards
abbrev pub CountsAnswer : State → ℕ → ℕ → TakenText → Result AnswerCounted Refusal → State → List Entry → List Entry → Type 0
CountsAnswer s seat id t (Ok a) new before now = IsCounted s seat id t a new before now
CountsAnswer s seat id t (Err e) new before now = TakesAnswer s seat id t (Err e) new × (now ≡ before)
