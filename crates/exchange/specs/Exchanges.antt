-- Exchanges: a session of a range with a partner, as its owner runs it.
use Rattle.std.specs.Prelude.{◌≡◌, ◌⊎◌, ℕ, Bool, true, false, ◌&&◌, ◌==◌, bytes_eq, length, List, [], Option, Some, None, option_map, Result, Ok, Err, is_none, if◌then◌else◌}
use Rattle.vclock.specs.Outcome.{Outcome, gives, DoesOrNoMemory, ◌>>=◌, ◌>>◌}
use Rattle.vclock.specs.declared.refusal.Refusal.{Refusal}
use Rattle.vclock.specs.declared.refusal.Refusal.TheVariants as refusals
use Rattle.tree_nodes.specs.Nodes.{Node}
use Rattle.snapshot.specs.RowMaps.{RowMap, root_of}
use Rattle.walk_messages.specs.declared.message.Answer.{Answer}
use Rattle.walk_messages.specs.declared.message.Ask.{Ask}
use Rattle.walk_messages.specs.declared.message.Offer.{Offer}
use Rattle.sync_session.specs.Steps.{cancelled_by}
use Rattle.sync_session.specs.Walks.{TakenText}
use Rattle.range_state.specs.declared.«record».Record.{Record}
use Rattle.range_state.specs.declared.event.AnswerTaken.{AnswerTaken}
use Rattle.range_state.specs.declared.local_rows.LocalRows.TheVariants.{Moment}
use Rattle.range_state.specs.State.{State}
use Rattle.range_state.specs.Records.{place_of, record_of}
use Rattle.range_state.specs.Sessions.{foreign_fault, walked_to, TakesAnswer}
use Rattle.range_state.specs.Moments.{moment_fault, shown_rows, open_at_moment}
use Rattle.exchange.specs.declared.bounds.Bounds.{Bounds}
use Rattle.exchange.specs.declared.report.Report.{Report}
use Rattle.exchange.specs.declared.verdict.Verdict.{Verdict}
use Rattle.exchange.specs.declared.verdict.Verdict.TheVariants as verdicts
use Rattle.exchange.specs.declared.exchange.Exchange.{Exchange}
use Rattle.text_patch.specs.Messages.{IsPatchOf}
use Rattle.text_patch.specs.Patches.{Rebuilds}
use Rattle.exchange.specs.declared.outlining.Outlining.TheVariants.{Sent}
use Rattle.exchange.specs.Outlines.{no_outlines, unsent, outlining_of, is_out, with_outlining, after_miss, after_text, outline_for}
use Rattle.exchange.specs.Standings.{left_in, standing_of, is_sent}
use Rattle.exchange.specs.Courses.{Course, begun, level, unasked, report_of, is_over, after_loss, retracted}
use Rattle.exchange.specs.Asks.{is_leaf, next_in, ask_for, after_ask}
use Rattle.exchange.specs.Answers.{IsRead, sorted, judged}

-- an exchange with another course
abbrev pub on : Exchange → Course → Exchange
on x c = record x { course = c }

-- ---- the session of an exchange

-- a record belongs to the exchange's session: it has its partner, the offered root and the same local rows
abbrev pub is_of : Exchange → Record → Bool
is_of x r = (r.partner == x.partner) && bytes_eq r.session.root x.course.offer.root && bytes_eq (root_of r.session.own) x.local_root

abbrev pub if_of : Exchange → Option Record → Option Record
if_of x None = None
if_of x (Some r) = if is_of x r then Some r else None

-- the record of the exchange's session, if the range has it
abbrev pub record_in : Exchange → State → Option Record
record_in x s = if_of x (record_of x.session s.records)

-- ---- opening

-- an exchange with nothing to ask
abbrev pub level_with : ℕ → Offer → Bounds → Exchange
level_with partner offer bounds = record { partner = partner; local_root = offer.root; session = 0; course = level offer bounds; outlines = no_outlines }

-- an exchange of the session with a number, which compares these rows
abbrev pub begun_with : ℕ → Offer → Bounds → RowMap → ℕ → Exchange
begun_with partner offer bounds own id = record { partner = partner; local_root = root_of own; session = id; course = begun offer bounds (unasked own.format); outlines = unsent own.format }

-- the exchange of a new session, and the state with it
abbrev pub beginning : State → ℕ → Offer → Bounds → Outcome Exchange State
beginning s partner offer bounds = do
  p ← open_at_moment s partner offer
  gives (begun_with partner offer bounds (shown_rows Moment s) p.0) p.1

-- an exchange with a partner's offer: finished if the moment has the offered root, and no session is opened; otherwise
-- it has a session that compares the moment with the offer
abbrev pub opening : State → ℕ → Offer → Bounds → Outcome Exchange State
opening s partner offer bounds = do
  foreign_fault s.store.config offer
  moment_fault s.moment
  if bytes_eq offer.root (root_of (shown_rows Moment s)) then gives (level_with partner offer bounds) s else beginning s partner offer bounds

-- a call that tests its first cause without memory; without that cause, it has the outcome, or NoMemory
abbrev pub OpensUnless : {T S : Type 0} → Option Refusal → Result T Refusal → S → S → Outcome T S → Type 0
OpensUnless (Some e) result old new o = (result ≡ Err e) × (new ≡ old)
OpensUnless None result old new o = DoesOrNoMemory result old new o

-- ---- asking

-- the ask to send now, if any, and the exchange after it
abbrev pub asks_of : Exchange → Option Record → Option Ask × Exchange
asks_of x None = (None, x)
asks_of x (Some r) = (ask_for x.course (next_in x.course r.session), on x (after_ask x.course (next_in x.course r.session)))

-- a node's outline, if any, is sent in place of its ask
abbrev pub outlined : Exchange → Node → Option (List ℕ) → Outcome (Option (List ℕ)) Exchange
outlined x n None = gives None x
outlined x n (Some bytes) = gives (Some bytes) (record x { outlines = with_outlining x.outlines n Sent })

-- an outline with at most `room` bytes, if any, is sent
abbrev pub outlines_of : Exchange → Option Record → Node → ℕ → Outcome (Option (List ℕ)) Exchange
outlines_of x None n room = gives None x
outlines_of x (Some r) n room = outlined x n (outline_for x.outlines x.course r.session n room)

-- ---- outlines in progress

-- the ask for a node is in progress, and was sent as an outline
abbrev pub awaits : Exchange → Node → Bool
awaits x n = is_out (outlining_of x.outlines n) && is_sent (standing_of x.course.standings n)

-- the outline of a node brought no text: its ask isn't counted, and may be sent
abbrev pub missed : Exchange → Node → Exchange
missed x n = record x { course = retracted x.course n; outlines = after_miss x.outlines n }

-- it brought a text that its session was offered
abbrev pub ended : Exchange → Node → Exchange
ended x n = record x { outlines = after_text x.outlines n }

-- the ask for a node, if it is in progress, is lost
abbrev pub lost_for : Exchange → Node → Exchange
lost_for x n = if is_over x.course then x else if awaits x n then missed x n else on x (after_loss x.course n)

-- ---- taking

-- a session takes a text, if there is memory for it
abbrev pub TakesText : State → ℕ → ℕ → TakenText → Result AnswerTaken Refusal → State → Type 0
TakesText s seat id t said new = ((said ≡ Err refusals.NoMemory) × (new ≡ s)) ⊎ TakesAnswer s seat id t said new

-- the verdict on an answer for a node, with a text of that length, by its session's result
abbrev pub judged_in : Exchange → Node → Bool → ℕ → Result AnswerTaken Refusal → Verdict × Exchange
judged_in x n leaf len said = ((judged x.course n leaf len said).0, on x (judged x.course n leaf len said).1)

-- the verdict on an answer to an outline: it isn't counted if it brought another text or none
abbrev pub judged_outline : Exchange → Node → Bool → ℕ → Result AnswerTaken Refusal → Verdict × Exchange
judged_outline x n leaf len (Err refusals.WrongDigest) = (verdicts.Late, missed x n)
judged_outline x n leaf len (Err refusals.BadMessage) = (verdicts.Late, missed x n)
judged_outline x n leaf len said = judged_in (ended x n) n leaf len said

abbrev pub concluded : Exchange → Node → Bool → ℕ → Result AnswerTaken Refusal → Verdict × Exchange
concluded x n leaf len said = if awaits x n then judged_outline x n leaf len said else judged_in x n leaf len said

-- a due answer is offered to the session, and judged by its result; any other already has its verdict
pub record IsJudged (x : Exchange) (s : State) (seat : ℕ) (r : Record) (a : Answer) (v : Verdict) (y : Exchange) (t : State) : Type 0 where
  pub said : Result AnswerTaken Refusal
  pub takes : TakesText s seat x.session (record { node = a.node; text = a.text }) said t
  pub verdict : v ≡ (concluded x a.node (is_leaf r.session.own a.node) (length a.text) said).0
  pub exchange : y ≡ (concluded x a.node (is_leaf r.session.own a.node) (length a.text) said).1

abbrev pub TakesSorted : Exchange → State → ℕ → Record → Result Answer Verdict × Course → Verdict → Exchange → State → Type 0
TakesSorted x s seat r (Ok a, c) v y t = IsJudged (on x c) s seat r a v y t
TakesSorted x s seat r (Err w, c) v y t = (v ≡ w) × (y ≡ on x c) × (t ≡ s)

-- the text that a patch makes is taken like an answer's; a patch that makes no text has its verdict
abbrev pub TakesRebuilt : Exchange → State → ℕ → Record → Ask → Result (List ℕ) Refusal → Verdict → Exchange → State → Type 0
TakesRebuilt x s seat r a (Ok text) v y t = IsJudged x s seat r (record { offer = a.offer; node = a.node; text = text }) v y t
TakesRebuilt x s seat r a (Err e) v y t = (v ≡ (concluded x a.node (is_leaf r.session.own a.node) 0 (Err e)).0) × (y ≡ (concluded x a.node (is_leaf r.session.own a.node) 0 (Err e)).1) × (t ≡ s)

-- the text is made from the local parts
pub record TakesSteps (x : Exchange) (s : State) (seat : ℕ) (r : Record) (a : Ask) (steps : List ℕ) (v : Verdict) (y : Exchange) (t : State) : Type 0 where
  pub rebuilt : Result (List ℕ) Refusal
  pub is : Rebuilds r.session.own a.node steps rebuilt
  pub taken : TakesRebuilt x s seat r a rebuilt v y t

-- the record of the session, if the exchange isn't over and the range has it
abbrev pub going_in : Exchange → State → Option Record
going_in x s = if is_over x.course then None else record_in x s

-- a patch is late if no outline for it is in progress
abbrev pub TakesAwaited : Bool → Exchange → State → ℕ → Record → Ask → List ℕ → Verdict → Exchange → State → Type 0
TakesAwaited true x s seat r a steps v y t = TakesSteps x s seat r a steps v y t
TakesAwaited false x s seat r a steps v y t = (v ≡ verdicts.Late) × (y ≡ x) × (t ≡ s)

-- a patch is late, too, if the range doesn't have the session
abbrev pub TakesPatch : Exchange → State → ℕ → Ask → List ℕ → Option Record → Verdict → Exchange → State → Type 0
TakesPatch x s seat a steps None v y t = (v ≡ verdicts.Late) × (y ≡ x) × (t ≡ s)
TakesPatch x s seat a steps (Some r) v y t = TakesAwaited ((a.offer == x.course.offer.offer) && awaits x a.node) x s seat r a steps v y t

-- other bytes for a session of the range
pub record TakesBytes (x : Exchange) (s : State) (seat : ℕ) (bytes : List ℕ) (r : Record) (v : Verdict) (y : Exchange) (t : State) : Type 0 where
  pub read : Option Answer
  pub is : IsRead bytes read
  pub taken : TakesSorted x s seat r (sorted x.course read) v y t

-- other bytes are late if the range doesn't have the session
abbrev pub TakesFor : Exchange → State → ℕ → List ℕ → Option Record → Verdict → Exchange → State → Type 0
TakesFor x s seat bytes None v y t = (v ≡ verdicts.Late) × (y ≡ x) × (t ≡ s)
TakesFor x s seat bytes (Some r) v y t = TakesBytes x s seat bytes r v y t

-- the bytes of a patch are taken
pub record TakesPatched (x : Exchange) (s : State) (seat : ℕ) (bytes : List ℕ) (v : Verdict) (y : Exchange) (t : State) : Type 0 where
  pub ask : Ask
  pub steps : List ℕ
  pub is : IsPatchOf bytes ask steps
  pub taken : TakesPatch x s seat ask steps (going_in x s) v y t

-- bytes that aren't a patch are taken
pub record TakesOther (x : Exchange) (s : State) (seat : ℕ) (bytes : List ℕ) (v : Verdict) (y : Exchange) (t : State) : Type 0 where
  pub other : (a : Ask) (steps : List ℕ) → IsPatchOf bytes a steps → ⊥
  pub taken : TakesFor x s seat bytes (going_in x s) v y t

abbrev pub Takes : Exchange → State → ℕ → List ℕ → Verdict → Exchange → State → Type 0
Takes x s seat bytes v y t = TakesPatched x s seat bytes v y t ⊎ TakesOther x s seat bytes v y t

-- ---- reporting and closing

abbrev pub report_in : Exchange → State → Report
report_in x s = report_of x.course (option_map (λ r. r.session) (record_in x s))

-- the outstanding nodes of its session that were left
abbrev pub left_of : Exchange → Option Record → List Node
left_of x None = []
left_of x (Some r) = left_in x.course.standings r.session.outstanding

-- the range after the session of a record is cancelled, if it is in progress
abbrev pub cancelled_in : State → ℕ → Option Record → State
cancelled_in s id None = s
cancelled_in s id (Some r) = walked_to s (place_of id s.records) r (cancelled_by r.session r.session.state)

abbrev pub after_close : Exchange → State → State
after_close x s = cancelled_in s x.session (if is_none x.course.end then record_in x s else None)
