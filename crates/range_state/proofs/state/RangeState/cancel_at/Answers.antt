use Rattle.std.proofs.Common.{◌≡◌, ◌<◌, Some, length, set, refl, sym, ap, ◌∙◌, arith, slice_get}
use Rattle.std.proofs.lemmas.Option.{slice_get_read}
use Rattle.vclock.specs.Outcome.{gives}
use Rattle.sync_session.specs.Walks.{Walk}
use Rattle.sync_session.specs.Steps.{cancelled_by}
use Rattle.range_state.specs.declared.«record».Record.{Record}
use Rattle.range_state.specs.State.{State}
use Rattle.range_state.specs.Sessions.{cancel_record, walked_to}
use Rattle.range_state.proofs.SessionLaws.{cancelled_right}
use Rattle.range_state.proofs.state.RangeState.cancel_at.Goals as goal

pub invariant_of-self : goal.invariant_of-self
invariant_of-self c =
    let s : State = record {
      store = c.self.inside.store;
      records = c.self.inside.records.items;
      moment = c.self.inside.moment;
      whole_before = c.self.inside.whole_before;
      next_session = c.self.inside.next_session;
      settled = c.self.inside.settled;
    } in
    let r : Record = c.index_mut.result.now in
    let within : c.args.place < length s.records = omega (arith, c.if-place-len.false, c.len.ensures) in
    let right = cancelled_right s c.args.place r
    (record { number = r.number; partner = r.partner; session = c.cancel.new.self }) c.self.invariant within c.index_mut.ensures.value
    (ap (λ (w : Walk). record { number = r.number; partner = r.partner; session = w }) c.cancel.ensures) in
    right

pub returns : goal.returns
returns c =
    let s : State = record {
      store = c.self.inside.store;
      records = c.self.inside.records.items;
      moment = c.self.inside.moment;
      whole_before = c.self.inside.whole_before;
      next_session = c.self.inside.next_session;
      settled = c.self.inside.settled;
    } in
    let r : Record = c.index_mut.result.now in
    let within : c.args.place < length s.records = omega (arith, c.if-place-len.false, c.len.ensures) in
    let here : slice_get c.args.self.now.records c.args.place ≡ Some r = ap (λ (t : State). slice_get t.records c.args.place) (sym c.self.view_is)
    ∙ slice_get_read s.records (length s.records) c.args.place r refl within c.index_mut.ensures.value in
    let ended = ap (λ (w : Walk). record {
      store = s.store;
      records = set s.records c.args.place (record { number = r.number; partner = r.partner; session = w });
      moment = s.moment;
      whole_before =
          s.whole_before;
      next_session = s.next_session;
      settled = s.settled;
    }) c.cancel.ensures in
    let is = ended ∙ ap (λ (t : State). walked_to t c.args.place r (cancelled_by r.session r.session.state)) c.self.view_is in
    ap (cancel_record c.args.self.now c.args.place) here ∙ ap (gives tt) (sym is)
