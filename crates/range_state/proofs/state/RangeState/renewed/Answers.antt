use Rattle.std.proofs.Common.{None, sym, subst}
use Rattle.range_store.proofs.RenewLaws.{renewed_right, limit_fits}
use Rattle.range_state.specs.State.{State, IsRight}
use Rattle.range_state.proofs.StoreCalls.{right_renewed}
use Rattle.range_state.proofs.state.RangeState.renewed.Goals as goal

pub invariant_of-result : goal.invariant_of-result
invariant_of-result c =
    let s : State = record {
      store = c.self.inside.store;
      records = c.self.inside.records.items;
      moment = c.self.inside.moment;
      whole_before = c.self.inside.whole_before;
      next_session = c.self.inside.next_session;
      settled = c.self.inside.settled;
    } in
    let made = c.in_ok-renewed.ensures in
    let sound = renewed_right s.store c.args.seat c.args.limit c.self.invariant.store (limit_fits s.store c.args.limit made.0) in
    subst IsRight (λ i. record {
      store = sym made.1 i;
      records = sym c.new.ensures.items i;
      moment = None;
      whole_before = 0;
      next_session = s.next_session;
      settled = 0;
    }) (right_renewed s c.args.seat c.args.limit sound)
