-- Sessions, as C runs them.
use Rattle.std.specs.Prelude.{◌≡◌, ◌⊎◌, ℕ, ◌==◌, nat_le, List, length, Option, Some, None, Result, Ok, Err, MatchBool, if◌then◌else◌}
use Rattle.vclock.specs.Outcome.{Does}
use Rattle.vclock.specs.declared.refusal.Refusal.{Refusal}
use Rattle.vclock.specs.declared.refusal.Refusal.TheVariants.{BadClock, BadMessage, UnknownSession}
use Rattle.walk_messages.specs.declared.message.Answer.{Answer}
use Rattle.walk_messages.specs.declared.message.Ask.{Ask}
use Rattle.walk_messages.specs.declared.message.Message.{Message}
use Rattle.walk_messages.specs.declared.message.Message.TheVariants as messages
use Rattle.tree_nodes.specs.Nodes.{Node}
use Rattle.sync_session.specs.declared.state.SessionState.{SessionState}
use Rattle.sync_session.specs.declared.state.SessionState.TheVariants.{Open, Finished, Failed, Cancelled}
use Rattle.range_state.specs.Records.{record_of}
use Rattle.range_state.specs.State.{State}
use Rattle.range_state.specs.Moments.{opening}
use Rattle.range_state.specs.Sessions.{TakesAnswer}
use Rattle.range_state.specs.Patches.{Patches}
use Rattle.text_patch.specs.Messages.{IsPatchOf}
use Rattle.range_state.specs.declared.local_rows.LocalRows.{LocalRows}
use Rattle.range_state.specs.declared.«record».Record.{Record}
use Rattle.range_state.specs.declared.event.AnswerTaken.{AnswerTaken}
use Rattle.c_calls.specs.Reads.{Reads}
use Rattle.c_calls.specs.declared.sessions.TakenReceipt.{TakenReceipt}

-- a session that compares the current rows, or the moment's rows, is opened by a decoded message, if it is an offer
abbrev pub Opens : LocalRows → State → ℕ → Result ℕ Refusal → State → Result Message Refusal → Type 0
Opens rows s partner r t (Ok (messages.Offer offer)) = Does r s t (opening rows s partner offer)
Opens rows s partner r t (Ok (messages.Ask ask)) = (r ≡ Err BadMessage) × (t ≡ s)
Opens rows s partner r t (Ok (messages.Answer answer)) = (r ≡ Err BadMessage) × (t ≡ s)
Opens rows s partner r t (Err e) = (r ≡ Err e) × (t ≡ s)

-- the fault of a number that no partner has: it is over 65,535
abbrev pub partner_fault : ℕ → Option Refusal
partner_fault partner = if nat_le partner 65535 then None else Some BadClock

-- a session is opened by the bytes of a message, unless there is a cause before they are decoded
abbrev pub OpensUnless : Option Refusal → LocalRows → State → ℕ → List ℕ → Result ℕ Refusal → State → Type 0
OpensUnless None rows s partner bytes r t = Reads bytes (Opens rows s partner r t)
OpensUnless (Some e) rows s partner bytes r t = (r ≡ Err e) × (t ≡ s)

-- the caller gets the number, unless the call was refused
abbrev pub TellsNumber : Result ℕ Refusal → ℕ → ℕ → Type 0
TellsNumber (Ok n) old new = new ≡ n
TellsNumber (Err e) old new = new ≡ old

-- an answer of the offer with that number is taken, as by seat 0, and one of another offer is refused
abbrev pub TakesWith : State → ℕ → ℕ → Answer → Result AnswerTaken Refusal → State → Type 0
TakesWith s id number a r t = MatchBool (a.offer == number)
    (TakesAnswer s 0 id (record { node = a.node; text = a.text }) r t)
    ((r ≡ Err BadMessage) × (t ≡ s))

-- a decoded message is taken, if it is an answer
abbrev pub TakesMessage : State → ℕ → ℕ → Result AnswerTaken Refusal → State → Result Message Refusal → Type 0
TakesMessage s id number r t (Ok (messages.Answer answer)) = TakesWith s id number answer r t
TakesMessage s id number r t (Ok (messages.Offer offer)) = (r ≡ Err BadMessage) × (t ≡ s)
TakesMessage s id number r t (Ok (messages.Ask ask)) = (r ≡ Err BadMessage) × (t ≡ s)
TakesMessage s id number r t (Err e) = (r ≡ Err e) × (t ≡ s)

-- the text that a patch makes is taken as an answer's, as by seat 0; a patch that makes none is refused
abbrev pub TakesMade : State → ℕ → Node → Result (List ℕ) Refusal → Result AnswerTaken Refusal → State → Type 0
TakesMade s id node (Ok text) r t = TakesAnswer s 0 id (record { node = node; text = text }) r t
TakesMade s id node (Err e) r t = (r ≡ Err e) × (t ≡ s)

-- the steps of a patch are taken: they make a text of the local parts
pub record TakesSteps (s : State) (id : ℕ) (node : Node) (steps : List ℕ) (r : Result AnswerTaken Refusal) (t : State) : Type 0 where
  pub made : Result (List ℕ) Refusal
  pub is : Patches s id node steps made
  pub taken : TakesMade s id node made r t

-- a patch of the offer with that number is taken, and one of another offer is refused
abbrev pub TakesPatch : State → ℕ → ℕ → Ask → List ℕ → Result AnswerTaken Refusal → State → Type 0
TakesPatch s id number ask steps r t = MatchBool (ask.offer == number)
    (TakesSteps s id ask.node steps r t)
    ((r ≡ Err BadMessage) × (t ≡ s))

-- the bytes are a patch
pub record TakesPatched (s : State) (id number : ℕ) (bytes : List ℕ) (r : Result AnswerTaken Refusal) (t : State) : Type 0 where
  pub ask : Ask
  pub steps : List ℕ
  pub is : IsPatchOf bytes ask steps
  pub taken : TakesPatch s id number ask steps r t

-- the bytes are not a patch
pub record TakesOther (s : State) (id number : ℕ) (bytes : List ℕ) (r : Result AnswerTaken Refusal) (t : State) : Type 0 where
  pub other : (ask : Ask) (steps : List ℕ) → IsPatchOf bytes ask steps → ⊥
  pub taken : Reads bytes (TakesMessage s id number r t)

-- the bytes of a patch or of a message are taken
unfoldable pub TakesBytes : State → ℕ → ℕ → List ℕ → Result AnswerTaken Refusal → State → Type 0
TakesBytes s id number bytes r t = TakesPatched s id number bytes r t ⊎ TakesOther s id number bytes r t

-- the number of a session's state
abbrev pub number_of_state : SessionState → ℕ
number_of_state Open = 0
number_of_state Finished = 1
number_of_state Failed = 2
number_of_state Cancelled = 3

-- the caller gets the receipt of an answer, if it was taken
abbrev pub TellsTaken : Result AnswerTaken Refusal → TakenReceipt → TakenReceipt → Type 0
TellsTaken (Ok a) old new = new ≡ record { accepted = length a.receipts.items; known = a.known; state = number_of_state a.state }
TellsTaken (Err e) old new = new ≡ old

-- the number of the state of a record's session, if there is a record
abbrev pub seen_of : Option Record → Result ℕ Refusal
seen_of None = Err UnknownSession
seen_of (Some r) = Ok (number_of_state r.session.state)

abbrev pub session_seen : State → ℕ → Result ℕ Refusal
session_seen s id = seen_of (record_of id s.records)
