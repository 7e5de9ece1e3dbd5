-- Exchanges, as C runs them.
use Rattle.std.specs.Prelude.{◌≡◌, ◌⊎◌, ℕ, ◌-◌, ◌^◌, ◌==◌, min, List, [], ◌++◌, length, drop, Bool, true, false, Option, Some, None, Result, Ok, Err, if◌then◌else◌}
use Rattle.vclock.specs.Outcome.{Outcome, gives, refuses}
use Rattle.vclock.specs.Refusal.{cause_number}
use Rattle.vclock.specs.declared.refusal.Refusal.{Refusal}
use Rattle.vclock.specs.declared.refusal.Refusal.TheVariants.{BadMessage, JournalFull, NoMemory}
use Rattle.walk_messages.specs.Messages.{message_text}
use Rattle.walk_messages.specs.declared.message.Ask.{Ask}
use Rattle.walk_messages.specs.declared.message.Message.{Message}
use Rattle.walk_messages.specs.declared.message.Message.TheVariants as messages
use Rattle.range_state.specs.State.{State}
use Rattle.range_state.specs.Sessions.{foreign_fault}
use Rattle.range_state.specs.declared.«record».Record.{Record}
use Rattle.text_patch.specs.Marks.{MarkList}
use Rattle.text_patch.specs.Messages.{IsOutlineOf}
use Rattle.exchange.specs.Exchanges.{opening, OpensUnless, asks_of, outlines_of, lost_for, Takes}
use Rattle.exchange.specs.declared.bounds.Bounds.{Bounds}
use Rattle.exchange.specs.declared.exchange.Exchange.{Exchange}
use Rattle.exchange.specs.declared.report.Stop.{Stop}
use Rattle.exchange.specs.declared.report.Stop.TheVariants as stops
use Rattle.exchange.specs.declared.verdict.Verdict.{Verdict}
use Rattle.exchange.specs.declared.verdict.Verdict.TheVariants as verdicts
use Rattle.c_calls.specs.Numbers.{SMALL}
use Rattle.c_calls.specs.Reads.{Reads}
use Rattle.c_calls.specs.declared.exchanges.ExchangeBounds.{ExchangeBounds}
use Rattle.c_calls.specs.declared.exchanges.ExchangeVerdict.{ExchangeVerdict}

-- ---- opening

-- a number over 2^32 - 1 counts as that number
abbrev pub narrowed : ℕ → ℕ
narrowed n = min n (2 ^ 32 - 1)

abbrev pub bounds_from : ExchangeBounds → Bounds
bounds_from b = record { asks = narrowed b.asks; bytes = b.bytes; bad = narrowed b.bad; lost = narrowed b.lost }

-- the result, with the value in its box
abbrev pub unboxed : {B : Type 0} → (B → Exchange) → Result B Refusal → Result Exchange Refusal
unboxed value (Ok b) = Ok (value b)
unboxed value (Err e) = Err e

-- an exchange is opened by a decoded message, if it is an offer
abbrev pub Begins : State → ℕ → Bounds → Result Exchange Refusal → State → Result Message Refusal → Type 0
Begins s partner bounds r t (Ok (messages.Offer offer)) = OpensUnless (foreign_fault s.store.config offer) r s t (opening s partner offer bounds)
Begins s partner bounds r t (Ok (messages.Ask ask)) = (r ≡ Err BadMessage) × (t ≡ s)
Begins s partner bounds r t (Ok (messages.Answer answer)) = (r ≡ Err BadMessage) × (t ≡ s)
Begins s partner bounds r t (Err e) = (r ≡ Err BadMessage) × (t ≡ s)

-- an exchange is opened by the bytes of a message, unless there is a cause before they are decoded
abbrev pub BeginsUnless : Option Refusal → State → ℕ → List ℕ → Bounds → Result Exchange Refusal → State → Type 0
BeginsUnless None s partner bytes bounds r t = Reads bytes (Begins s partner bounds r t)
BeginsUnless (Some e) s partner bytes bounds r t = (r ≡ Err e) × (t ≡ s)

-- ---- asking

-- Bytes are written to the front of a buffer. Before and after are the stored number and the buffer.
abbrev pub Writes : List ℕ → ℕ → ℕ × List ℕ → ℕ × List ℕ → Type 0
Writes bytes code before after = (code ≡ 0) × (after.0 ≡ length bytes) × (after.1 ≡ bytes ++ drop (length bytes) before.1)

-- an ask is written, and the exchange is x
abbrev pub WritesAsk : Ask → ℕ × List ℕ → ℕ × List ℕ → Exchange → Exchange → Type 0
WritesAsk ask before after x y = Writes (message_text (messages.Ask ask)) 0 before after × (y ≡ x)

-- the ask's outline is written in its place, if it has one and memory suffices
abbrev pub WritesAsked : Ask → Outcome (Option (List ℕ)) Exchange → ℕ × List ℕ → ℕ × List ℕ → Exchange → Exchange → Type 0
WritesAsked ask (gives (Some bytes) z) before after x y = (Writes bytes 0 before after × (y ≡ z)) ⊎ WritesAsk ask before after x y
WritesAsked ask (gives None z) before after x y = WritesAsk ask before after x y
WritesAsked ask (refuses e) before after x y = WritesAsk ask before after x y

-- the message of an ask that is sent is written, or no bytes
abbrev pub WritesSent : Option Ask × Exchange → Option Record → ℕ × List ℕ → ℕ × List ℕ → Exchange → Type 0
WritesSent (Some ask, x) r before after y = WritesAsked ask (outlines_of x r ask.node (length before.1)) before after x y
WritesSent (None, x) r before after y = Writes [] 0 before after × (y ≡ x)

-- the message of the ask that is sent now is written, or no bytes; if the buffer is too short for an ask, none is sent
abbrev pub WritesNext : Bool → ℕ → ℕ × List ℕ → ℕ × List ℕ → Option Record → Exchange → Exchange → Type 0
WritesNext true code before after r x y = (code ≡ 0) × WritesSent (asks_of x r) r before after y
WritesNext false code before after r x y = (code ≡ SMALL) × (after.0 ≡ 8) × (after.1 ≡ before.1) × (y ≡ x)

-- ---- taking

-- the number of the cause for which asks stopped
abbrev pub stop_number : Stop → ℕ
stop_number stops.JournalFull = cause_number JournalFull
stop_number stops.NoMemory = cause_number NoMemory

-- a verdict for an answer that was not taken, with the number of its cause
abbrev pub untaken : ℕ → ℕ → ExchangeVerdict
untaken verdict cause = record { verdict = verdict; cause = cause; accepted = 0; known = 0 }

abbrev pub verdict_from : Verdict → ExchangeVerdict
verdict_from (verdicts.Taken a) = record { verdict = 0; cause = 0; accepted = length a.receipts.items; known = a.known }
verdict_from verdicts.Left = untaken 1 0
verdict_from (verdicts.Bad e) = untaken 2 (cause_number e)
verdict_from verdicts.Late = untaken 3 0
verdict_from (verdicts.Refused stop) = untaken 4 (stop_number stop)
verdict_from verdicts.Failed = untaken 5 0

-- The caller gets the verdict on the bytes, which seat 0 takes.
pub record TakesTold (x : Exchange) (s : State) (bytes : List ℕ) (told : ExchangeVerdict) (y : Exchange) (t : State) : Type 0 where
  pub verdict : Verdict
  pub is_told : told ≡ verdict_from verdict
  pub takes : Takes x s 0 bytes verdict y t

-- ---- losing

-- the node of an ask for the exchange's offer is lost; one for another offer changes nothing
abbrev pub lost_by : Exchange → Ask → Exchange
lost_by x ask = if ask.offer == x.course.offer.offer then lost_for x ask.node else x

-- a decoded message is lost, if it is an ask
abbrev pub Loses : Exchange → Result (Unit {0}) Refusal → Exchange → Result Message Refusal → Type 0
Loses x r y (Ok (messages.Ask ask)) = (r ≡ Ok tt) × (y ≡ lost_by x ask)
Loses x r y (Ok (messages.Offer offer)) = (r ≡ Err BadMessage) × (y ≡ x)
Loses x r y (Ok (messages.Answer answer)) = (r ≡ Err BadMessage) × (y ≡ x)
Loses x r y (Err e) = (r ≡ Err BadMessage) × (y ≡ x)

-- an outline is lost as the ask in whose place it was sent
pub record LosesOutline (x : Exchange) (bytes : List ℕ) (r : Result (Unit {0}) Refusal) (y : Exchange) : Type 0 where
  pub ask : Ask
  pub marks : MarkList
  pub is : IsOutlineOf bytes ask marks
  pub result : r ≡ Ok tt
  pub lost : y ≡ lost_by x ask

-- other bytes are lost if they are an ask
pub record LosesOther (x : Exchange) (bytes : List ℕ) (r : Result (Unit {0}) Refusal) (y : Exchange) : Type 0 where
  pub other : (ask : Ask) (marks : MarkList) → IsOutlineOf bytes ask marks → ⊥
  pub loses : Reads bytes (Loses x r y)

abbrev pub LosesBytes : Exchange → List ℕ → Result (Unit {0}) Refusal → Exchange → Type 0
LosesBytes x bytes r y = LosesOutline x bytes r y ⊎ LosesOther x bytes r y
