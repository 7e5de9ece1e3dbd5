use Rattle.std.proofs.Common.{◌≡◌, ◌<◌, List, None, length, sym, ap, subst, ◌∙◌}
use Rattle.std.specs.Arc.{arc_value}
use Rattle.snapshot.specs.RowMaps.{RowMap}
use Rattle.sync_session.specs.Walks.{Walk}
use Rattle.sync_session.specs.Steps.{started}
use Rattle.range_state.specs.declared.«record».Record.{Record}
use Rattle.range_state.specs.Records.{open_count}
use Rattle.range_state.specs.State.{State, IsRight, rows_at}
use Rattle.range_state.specs.Sessions.{standings, crowd_fault}
use Rattle.range_state.specs.Moments.{moment_fault, front_of}
use Rattle.range_state.proofs.SessionLaws.{opened_when_whole, room_of}
use Rattle.range_state.proofs.state.RangeState.open_session_at_moment.Goals as goal

pub invariant_of-self-2 : goal.invariant_of-self-2
invariant_of-self-2 c =
    let s : State = record {
      store = c.self.inside.store;
      records = c.self.inside.records.items;
      moment = c.self.inside.moment;
      whole_before = c.self.inside.whole_before;
      next_session = c.self.inside.next_session;
      settled = c.self.inside.settled;
    } in
    let r : Record = record { number = c.self.inside.next_session; partner = c.args.partner; session = c.in_ok-session.session } in
    let room : (length s.records < 1024)
    × (open_count s.records < 64) =
    room_of s.records (subst (λ (rs : List Record). crowd_fault (standings rs) ≡ None) c.deref.ensures.value c.in_ok-check_crowd.ensures.0) in
    let whole = subst (λ (u : State). moment_fault u.moment ≡ None) (sym c.self.view_is) c.in_ok-own.ensures.0 in
    let rows = subst (λ (u : State). arc_value c.in_ok-own.own ≡ rows_at u.store (front_of u.moment)) (sym c.self.view_is) c.in_ok-own.ensures.1 in
    let begun = c.in_ok-session.ensures.1 ∙ ap (λ (m : RowMap). started m c.args.offer.root) rows in
    let right = opened_when_whole s c.args.partner c.args.offer.root r c.self.invariant whole room
    (ap (λ (w : Walk). record { number = c.self.inside.next_session; partner = c.args.partner; session = w }) begun) in
    subst IsRight (sym (λ i. record {
      store = s.store;
      records = c.in_ok-push.ensures.items i;
      moment = s.moment;
      whole_before = s.whole_before;
      next_session = c.in_ok-next.ensures.1 i;
      settled = s.settled;
    })) right
