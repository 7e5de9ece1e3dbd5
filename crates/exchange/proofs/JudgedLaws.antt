-- What a verdict says of the session.
use Rattle.std.proofs.Common.{◌≡◌, ◌<◌, ℕ, List, length, set, Bool, true, false, refl, sym, subst, ap, ◌∙◌}
use Rattle.std.proofs.lemmas.List.{length-set, get_or-set_same}
use Rattle.std.proofs.lemmas.Option.{slice_get_within, slice_get-get_or}
use Rattle.std.proofs.Common.{inl, inr}
use Rattle.std.specs.Prelude.{slice_get, Option, Some, None, Result, Ok, Err, if◌then◌else◌}
use Rattle.vclock.specs.declared.refusal.Refusal.{Refusal}
use Rattle.vclock.specs.declared.refusal.Refusal.TheVariants as refusals
use Rattle.tree_nodes.specs.Nodes.{Node}
use Rattle.walk_messages.specs.declared.message.Answer.{Answer}
use Rattle.sync_session.specs.Walks.{TakenText}
use Rattle.sync_session.specs.declared.state.SessionState.{SessionState}
use Rattle.sync_session.specs.declared.state.SessionState.TheVariants as states
use Rattle.range_state.specs.State.{State}
use Rattle.range_state.specs.Records.{place_of}
use Rattle.range_state.specs.Sessions.{TakesFor}
use Rattle.range_state.specs.Sessions as sessions
use Rattle.sync_session.specs.Steps.{after}
use Rattle.exchange.specs.Asks.{is_leaf}
use Rattle.range_state.specs.declared.«record».Record.{Record}
use Rattle.range_state.specs.declared.event.AnswerTaken.{AnswerTaken}
use Rattle.exchange.specs.declared.exchange.Exchange.{Exchange}
use Rattle.exchange.specs.declared.report.End.TheVariants as ends
use Rattle.exchange.specs.declared.verdict.Verdict.{Verdict}
use Rattle.exchange.specs.Courses.{Course}
use Rattle.exchange.specs.Answers.{judged, end_by}
use Rattle.exchange.specs.Exchanges.{IsJudged, awaits, concluded, judged_in, judged_outline}

-- the record at a place, when its session has walked on
walked_at : (records : List Record) (place : ℕ) (r u : Record) → slice_get records place ≡ Some r → slice_get (set records place u) place ≡ Some u
walked_at records place r u there =
    let within = slice_get_within records place r there in
    slice_get-get_or (set records place u) place u (subst (λ n. place < n) (sym (length-set records place u)) within)
    ∙ ap Some (get_or-set_same records place u u within)

-- the session of a record, after it took a text
module _ (s t : State) (seat place : ℕ) (r : Record) (text : TakenText) (there : slice_get s.records place ≡ Some r) where
  walks_on : (taken : AnswerTaken) → sessions.TakesText s seat place r text (Ok taken) t → (u : Record) × (slice_get t.records place ≡ Some u)
      × (u.session.state ≡ taken.state)
  walks_on taken (same, inl inner) = (
    record r { session = after r.session text },
    ap (λ (v : State). slice_get v.records place) inner.new_is
        ∙ walked_at s.records place r (record r { session = after r.session text }) there,
    sym same,
  )
  walks_on taken (same, inr leaf) = (
    record r { session = after r.session text },
    ap (λ (v : State). slice_get v.records place) leaf.new_is
        ∙ walked_at s.records place r (record r { session = after r.session text }) there,
    sym same,
  )

finished_by : (state : SessionState) → end_by state ≡ Some ends.Finished → state ≡ states.Finished
finished_by states.Finished e = refl
finished_by states.Open e = absurd (cc)
finished_by states.Failed e = absurd (cc)
finished_by states.Cancelled e = absurd (cc)

-- an answer that ends a course as finished was taken
finished_said : (x : Course) (n : Node) (leaf : Bool) (len : ℕ) (said : Result AnswerTaken Refusal) → x.end ≡ None
    → (judged x n leaf len said).1.end ≡ Some ends.Finished → (taken : AnswerTaken) × (said ≡ Ok taken) × (taken.state ≡ states.Finished)
finished_said x n leaf len (Ok taken) before e = (taken, refl, finished_by taken.state e)
finished_said x n leaf len (Err refusals.Crowded) before e = absurd (cc)
finished_said x n leaf len (Err refusals.NotAsked) before e = absurd (cc)
finished_said x n leaf len (Err refusals.WrongDigest) before e = absurd (cc)
finished_said x n leaf len (Err refusals.NotCanonical) before e = absurd (cc)
finished_said x n leaf len (Err refusals.JournalFull) before e = absurd (cc)
finished_said x n leaf len (Err refusals.NoMemory) before e = absurd (cc)
finished_said x n leaf len (Err other) before e = absurd (cc)

-- the same of the exchange
finished_in : (x : Exchange) (n : Node) (leaf : Bool) (len : ℕ) (said : Result AnswerTaken Refusal) → x.course.end ≡ None
    → (concluded x n leaf len said).1.course.end ≡ Some ends.Finished → (taken : AnswerTaken) × (said ≡ Ok taken) × (taken.state ≡ states.Finished)
finished_in x n leaf len said before e = by (awaits x n) said e
  where
    of_outline : (said : Result AnswerTaken Refusal) → (judged_outline x n leaf len said).1.course.end ≡ Some ends.Finished
        → (taken : AnswerTaken) × (said ≡ Ok taken) × (taken.state ≡ states.Finished)
    of_outline (Ok taken) e = finished_said x.course n leaf len (Ok taken) before e
    of_outline (Err refusals.WrongDigest) e = absurd (cc)
    of_outline (Err refusals.BadMessage) e = absurd (cc)
    of_outline (Err other) e = finished_said x.course n leaf len (Err other) before e

    by : (b : Bool) (said : Result AnswerTaken Refusal)
        → (if b then judged_outline x n leaf len said else judged_in x n leaf len said).1.course.end ≡ Some ends.Finished
        → (taken : AnswerTaken) × (said ≡ Ok taken) × (taken.state ≡ states.Finished)
    by true said e = of_outline said e
    by false said e = finished_said x.course n leaf len said before e

pub finished_with : (x y : Exchange) (s t : State) (seat : ℕ) (r : Record) (a : Answer) (v : Verdict)
    → slice_get s.records (place_of x.session s.records) ≡ Some r → IsJudged x s seat r a v y t → x.course.end ≡ None
    → y.course.end ≡ Some ends.Finished → (u : Record) × (slice_get t.records (place_of x.session s.records) ≡ Some u)
    × (u.session.state ≡ states.Finished)
finished_with x y s t seat r a v there j before finished =
    let text : TakenText = record { node = a.node; text = a.text } in
    let place = place_of x.session s.records in
    let ok = finished_in x a.node (is_leaf r.session.own a.node) (length a.text) j.said before (ap (λ (e : Exchange). e.course.end) (sym j.exchange)
    ∙ finished) in
    elim j.takes [
      | inl none ↦ absurd (cc)
      | inr takes ↦
          let walked = walks_on s t seat place r text there ok.0
          (subst (λ (said : Result AnswerTaken Refusal). sessions.TakesText s seat place r text said t) ok.1
          (subst (λ (o : Option Record). TakesFor s seat place o text j.said t) there takes)) in
          (walked.0, walked.1, walked.2 ∙ ok.2)
    ]
