use Rattle.std.proofs.Common.{◌≡◌, ◌<◌, length, sym, ap, subst, slice_get, Option}
use Rattle.std.specs.Prelude.{MatchOption}
use Rattle.sync_session.specs.Walks.{TakenText, Walk, IsCanonical}
use Rattle.sync_session.specs.Steps.{IsDue, failed}
use Rattle.range_state.specs.declared.«record».Record.{Record}
use Rattle.range_state.specs.State.{State, IsRight}
use Rattle.range_state.specs.Sessions.{walked_to}
use Rattle.range_state.proofs.TakenLaws.{failed_right}
use Rattle.range_state.proofs.AnswerLaws.{has_record, got_record, the_record}
use Rattle.range_state.proofs.state.RangeState.fail_session.Goals as goal
use Rattle.range_state.proofs.state.RangeState.fail_session.Goals.{After-self}

-- a text that a session awaits, and that no node can have
abbrev Broken : Record → Type 0
Broken r = (t : TakenText) × IsDue r.session t × (IsCanonical r.session.own t.node t.text → ⊥)

-- the state before, by its fields
abbrev state : After-self → State
state c = record {
  store = c.self.inside.store;
  records = c.self.inside.records.items;
  moment = c.self.inside.moment;
  whole_before = c.self.inside.whole_before;
  next_session = c.self.inside.next_session;
  settled = c.self.inside.settled;
}

asked : (c : After-self) → MatchOption (slice_get c.self.inside.records.items c.args.place) ⊥ Broken
asked c = subst (λ (u : State). MatchOption (slice_get u.records c.args.place) ⊥ Broken) (sym c.self.view_is) c.requires

within : (c : After-self) → c.args.place < length c.self.inside.records.items
within c = has_record c.self.inside.records.items c.args.place Broken (asked c)

pub fail-requires : goal.fail-requires
fail-requires c =
    let start = (goal.at.fail-requires c).After-self in
    the_record c.self.inside.records.items c.args.place c.index_mut.result.now Broken (within start) c.index_mut.ensures.value (asked start)

pub invariant_of-self : goal.invariant_of-self
invariant_of-self c =
    let start = (goal.at.invariant_of-self c).After-self in
    let r : Record = c.index_mut.result.now in
    subst (λ (w : Walk). IsRight (walked_to (state start) c.args.place r w)) (sym c.fail.ensures)
    (failed_right (state start) c.args.place r c.self.invariant (within start) c.index_mut.ensures.value)

pub returns : goal.returns
returns c =
    let start = (goal.at.returns c).After-self in
    let r : Record = c.index_mut.result.now in
    let new : State = walked_to (state start) c.args.place r c.fail.new.self in
    let here = got_record c.self.inside.records.items c.args.place r (within start) c.index_mut.ensures.value in
    subst (λ (u : State). MatchOption (slice_get u.records c.args.place) ⊥ (λ x. new ≡ walked_to u c.args.place x (failed x.session))) c.self.view_is
    (subst (λ (o : Option Record). MatchOption o ⊥ (λ x. new ≡ walked_to (state start) c.args.place x (failed x.session))) (sym here)
    (ap (walked_to (state start) c.args.place r) c.fail.ensures))
