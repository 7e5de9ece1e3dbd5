-- A session whose text was taken is still known.
use Rattle.std.proofs.Common.{◌≡◌, ℕ, List, length, refl, Option, Some, None, Ok, Err, ap, sym, get_or, ◌∙◌, inl, inr, arith, ◌<◌}
use Rattle.std.specs.Prelude.{slice_get, slice_set}
use Rattle.std.proofs.lemmas.List.{length-set}
use Rattle.std.proofs.lemmas.Option.{slice_get-get_or, slice_get_within, get_or_from_slice_get}
use Rattle.sync_session.specs.Walks.{TakenText}
use Rattle.range_state.specs.declared.«record».Record.{Record}
use Rattle.range_state.specs.declared.event.AnswerCounted.{AnswerCounted}
use Rattle.range_state.specs.declared.event.AnswerTaken.{AnswerTaken}
use Rattle.range_state.specs.Records.{place_of, record_of}
use Rattle.range_state.specs.State.{State}
use Rattle.range_state.specs.Sessions.{unknown_for, unknown_fault, TakesFor}
use Rattle.range_state.proofs.NumberLaws.{place_kept}
use Rattle.caller_pass.specs.Locks.{Locked, TellsAnswer}
use Rattle.caller_pass.specs.Passes.{PassView}

-- a record that replaced another one of its number is there
there : (rs ts : List Record) (id : ℕ) (r new : Record) → new.number ≡ r.number → record_of id rs ≡ Some r → ts ≡ slice_set rs (place_of id rs) new
    → unknown_for (record_of id ts) ≡ None
there rs ts id r new same has is =
    let place = place_of id rs in
    let was : r ≡ get_or rs place r = sym (get_or_from_slice_get rs place r r has) in
    let kept : place_of id ts ≡ place = ap (place_of id) is ∙ place_kept rs id place r new was same in
    let len : length ts ≡ length rs = ap length is ∙ length-set rs place new in
    let within : place < length ts = omega (arith, slice_get_within rs place r has, len) in
    ap (λ k. unknown_for (slice_get ts k)) kept ∙ ap unknown_for (slice_get-get_or ts place new within)

known_for : (s : State) (seat id : ℕ) (t : TakenText) (a : AnswerTaken) (new : State) (o : Option Record) → record_of id s.records ≡ o
    → TakesFor s seat (place_of id s.records) o t (Ok a) new → unknown_fault new id ≡ None
known_for s seat id t a new None is took = absurd (let no : Ok a ≡ Err _ = took.0 in cc)
known_for s seat id t a new (Some r) is took = elim took.1 [
  | inl inner ↦ there s.records new.records id r _ refl is (ap (λ (x : State). x.records) inner.new_is)
  | inr leaf ↦ there s.records new.records id r _ refl is (ap (λ (x : State). x.records) leaf.new_is)
]

pub still_known : (l m : Locked) (p q : PassView) (id : ℕ) (t : TakenText) (a : AnswerCounted) → TellsAnswer l p id t (Ok a) m q
    → unknown_fault m.state id ≡ None
still_known l m p q id t a is = known_for l.state p.seat id t is.taken m.state (record_of id l.state.records) refl is.takes
