-- Dry exchanges: the walk of a session outside of any range, so no range takes anything.
use Rattle.std.specs.Prelude.{◌≡◌, ◌⊎◌, ℕ, ◌==◌, Bool, true, false, List, [], length, Option, Some, None, Result, Ok, Err, if◌then◌else◌}
use Rattle.vclock.specs.Format.{format_number}
use Rattle.vclock.specs.declared.refusal.Refusal.{Refusal}
use Rattle.vclock.specs.declared.refusal.Refusal.TheVariants as refusals
use Rattle.snapshot.specs.RowMaps.{RowMap}
use Rattle.walk_messages.specs.declared.message.Answer.{Answer}
use Rattle.walk_messages.specs.declared.message.Offer.{Offer}
use Rattle.sync_session.specs.Readings.{Tells}
use Rattle.sync_session.specs.Steps.{started, after, after_refusal, IsTakeFault}
use Rattle.sync_session.specs.Walks.{TakenText, Walk}
use Rattle.sync_session.specs.declared.news.News.{News}
use Rattle.range_state.specs.declared.event.AnswerTaken.{AnswerTaken}
use Rattle.exchange.specs.declared.bounds.Bounds.{Bounds}
use Rattle.exchange.specs.declared.dry.DryExchange.{DryExchange}
use Rattle.exchange.specs.declared.verdict.Verdict.{Verdict}
use Rattle.exchange.specs.declared.verdict.Verdict.TheVariants as verdicts
use Rattle.exchange.specs.Courses.{Course, begun, unasked, is_over}
use Rattle.exchange.specs.Asks.{is_leaf, next_in, after_ask}
use Rattle.exchange.specs.Answers.{IsRead, sorted, judged}

-- the fault of an offer that isn't for these rows
abbrev pub dry_fault : RowMap → Offer → Option Refusal
dry_fault own offer = if offer.format == format_number own.format then (if offer.range == own.range then None else Some refusals.OtherRange) else Some refusals.OtherFormat

-- a dry exchange of these rows with an offer
abbrev pub dry : RowMap → Offer → Bounds → DryExchange
dry own offer bounds = record { session = started own offer.root; course = begun offer bounds (unasked own.format) }

abbrev pub after_dry_ask : DryExchange → DryExchange
after_dry_ask x = record x { course = after_ask x.course (next_in x.course x.session) }

-- a session takes a text, and returns its rows that are missing locally; it is unchanged if memory runs out
abbrev pub TakesNews : Walk → TakenText → Result News Refusal → Walk → Type 0
TakesNews w t (Ok news) new = Tells w t (Ok news) × (new ≡ after w t)
TakesNews w t (Err e) new = ((e ≡ refusals.NoMemory) × (new ≡ w)) ⊎ (IsTakeFault w t e × (new ≡ after_refusal w e))

-- the result of a text without an accepted version
abbrev pub IsNothingOf : Result News Refusal → Walk → Result AnswerTaken Refusal → Type 0
IsNothingOf (Ok news) w (Ok taken) = (taken.receipts.items ≡ []) × (taken.known ≡ news.known) × (taken.state ≡ w.state)
IsNothingOf (Ok news) w (Err e) = ⊥
IsNothingOf (Err e) w (Ok taken) = ⊥
IsNothingOf (Err e) w (Err f) = f ≡ e

abbrev pub news_in : Result News Refusal → Option News
news_in (Ok news) = Some news
news_in (Err e) = None

-- a due answer is judged by the session's result
pub record IsShown (x : DryExchange) (c : Course) (a : Answer) (v : Verdict) (news : Option News) (y : DryExchange) : Type 0 where
  pub said : Result News Refusal
  pub takes : TakesNews x.session (record { node = a.node; text = a.text }) said y.session
  pub taken : Result AnswerTaken Refusal
  pub nothing : IsNothingOf said y.session taken
  pub news_is : news ≡ news_in said
  pub verdict : v ≡ (judged c a.node (is_leaf x.session.own a.node) (length a.text) taken).0
  pub course : y.course ≡ (judged c a.node (is_leaf x.session.own a.node) (length a.text) taken).1

abbrev pub ShowsSorted : DryExchange → Result Answer Verdict × Course → Verdict → Option News → DryExchange → Type 0
ShowsSorted x (Ok a, c) v news y = IsShown x c a v news y
ShowsSorted x (Err w, c) v news y = (v ≡ w) × (news ≡ None) × (y ≡ record x { course = c })

-- bytes for a dry exchange that isn't over
pub record ShowsBytes (x : DryExchange) (bytes : List ℕ) (v : Verdict) (news : Option News) (y : DryExchange) : Type 0 where
  pub read : Option Answer
  pub is : IsRead bytes read
  pub shown : ShowsSorted x (sorted x.course read) v news y

-- bytes for any dry exchange: late if it is over
abbrev pub ShowsUnless : Bool → DryExchange → List ℕ → Verdict → Option News → DryExchange → Type 0
ShowsUnless true x bytes v news y = (v ≡ verdicts.Late) × (news ≡ None) × (y ≡ x)
ShowsUnless false x bytes v news y = ShowsBytes x bytes v news y

abbrev pub Shows : DryExchange → List ℕ → Verdict → Option News → DryExchange → Type 0
Shows x bytes v news y = ShowsUnless (is_over x.course) x bytes v news y
