use Rattle.std.proofs.Common.{◌≡◌, ℕ, get_or, refl, sym, subst, Ok, Err, slice_get, Result}
use Rattle.std.specs.Prelude.{MatchOption}
use Rattle.std.proofs.lemmas.Result.{err_from_is_err_and}
use Rattle.sync_session.specs.Walks.{TakenText, Walk}
use Rattle.vclock.specs.declared.refusal.Refusal.{Refusal}
use Rattle.range_state.specs.declared.«record».Record.{Record}
use Rattle.range_state.specs.declared.event.AnswerTaken.{AnswerTaken}
use Rattle.range_state.specs.State.{State, IsRight}
use Rattle.range_state.specs.Sessions.{walked_to, IsInnerRead, TakesFor}
use Rattle.range_state.proofs.TakenLaws.{inner_right}
use Rattle.range_state.proofs.AnswerLaws.{IsInnerAt, inner_at, only_memory, stayed, inner_refused, inner_taken}
use Rattle.range_store.proofs.ChangeLaws.{given_state}
use Rattle.range_state.proofs.state.RangeState.take_inner.Goals as goal
use Rattle.range_state.proofs.state.RangeState.take_inner.Goals.{After-self}

-- the state before, by its fields, and the text
abbrev state : After-self → State
state c = record {
  store = c.self.inside.store;
  records = c.self.inside.records.items;
  moment = c.self.inside.moment;
  whole_before = c.self.inside.whole_before;
  next_session = c.self.inside.next_session;
  settled = c.self.inside.settled;
}

abbrev text : After-self → TakenText
text c = record { node = c.args.node; text = c.args.text }

-- the session of the record awaits the text
awaits : (c : After-self) (r : Record) → r ≡ get_or c.self.inside.records.items c.args.place r → IsInnerAt (state c) c.args.place r (text c)
awaits c r was = inner_at (state c) c.args.place r (text c) c.self.invariant was
    (subst (λ (u : State). MatchOption (slice_get u.records c.args.place) ⊥ (λ x. IsInnerRead u x (text c))) (sym c.self.view_is) c.requires)

-- what is said of the state before is said of what it shows
shown : (c : After-self) (seat : ℕ) (result : Result AnswerTaken Refusal) (new : State)
    → TakesFor (state c) seat c.args.place (slice_get (state c).records c.args.place) (text c) result new
    → TakesFor c.args.self.now seat c.args.place (slice_get c.args.self.now.records c.args.place) (text c) result new
shown c seat result new is =
    subst (λ (u : State). TakesFor u seat c.args.place (slice_get u.records c.args.place) (text c) result new) c.self.view_is is

pub take_inner-requires-clause-inner : goal.take_inner-requires-clause-inner
take_inner-requires-clause-inner c =
    (awaits (goal.at.take_inner-requires-clause-inner c).After-self c.index_mut.result.now c.index_mut.ensures.value).inner

pub take_inner-requires-clause-due : goal.take_inner-requires-clause-due
take_inner-requires-clause-due c =
    (awaits (goal.at.take_inner-requires-clause-due c).After-self c.index_mut.result.now c.index_mut.ensures.value).read.due

pub take_inner-requires-clause-form : goal.take_inner-requires-clause-form
take_inner-requires-clause-form c =
    (awaits (goal.at.take_inner-requires-clause-form c).After-self c.index_mut.result.now c.index_mut.ensures.value).form

pub invariant_of-self : goal.invariant_of-self
invariant_of-self c = subst IsRight
    (stayed (state (goal.at.invariant_of-self c).After-self) c.args.place c.index_mut.result.now c.take_inner.new.self c.index_mut.ensures.value
    c.in_err-take_inner.ensures.0) c.self.invariant

pub returns-in_err-take_inner-clause-answers : goal.returns-in_err-take_inner-clause-answers
returns-in_err-take_inner-clause-answers c = λ seat.
    let start = (goal.at.returns-in_err-take_inner-clause-answers c).After-self in
    let r : Record = c.index_mut.result.now in
    let e = c.in_err-take_inner.field-0.0 in
    let p = err_from_is_err_and c.from_residual.result c.from_residual.ensures.1 in
    let same = stayed (state start) c.args.place r c.take_inner.new.self c.index_mut.ensures.value c.in_err-take_inner.ensures.0 in
    let refused = inner_refused (state start) seat c.args.place r (text start) e (awaits start r c.index_mut.ensures.value)
    (only_memory c.in_err-take_inner.ensures.1) in
    rw (p.1, p.2) (shown start seat (Err e) _
    (subst (λ (u : State). TakesFor (state start) seat c.args.place (slice_get (state start).records c.args.place) (text start) (Err e) u) same
    refused))

pub invariant_of-self-2 : goal.invariant_of-self-2
invariant_of-self-2 c =
    let start = (goal.at.invariant_of-self-2 c).After-self in
    let r : Record = c.index_mut.result.now in
    let at = awaits start r c.index_mut.ensures.value in
    subst (λ (w : Walk). IsRight (walked_to (state start) c.args.place r w)) (sym (given_state c.in_ok-take_inner.ensures))
    (inner_right (state start) c.args.place r (text start) c.self.invariant at.within c.index_mut.ensures.value at.read)

pub returns-clause-answers : goal.returns-clause-answers
returns-clause-answers c = λ seat.
    let start = (goal.at.returns-clause-answers c).After-self in
    let r : Record = c.index_mut.result.now in
    let a : AnswerTaken = record { receipts = c.new.result; known = 0; state = c.state.result } in
    let at = awaits start r c.index_mut.ensures.value in
    shown start seat (Ok a) _
    (inner_taken (state start) seat c.args.place r (text start) a c.take_inner.new.self at.here at.read c.new.ensures.items refl c.state.ensures
    (given_state c.in_ok-take_inner.ensures))
