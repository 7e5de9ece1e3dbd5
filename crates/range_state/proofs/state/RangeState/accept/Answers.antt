use Rattle.range_state.specs.State.{State}
use Rattle.range_state.proofs.StoreCalls.{accept_grows, or_memory, right_after}
use Rattle.range_state.proofs.state.RangeState.accept.Goals as goal

pub invariant_of-self : goal.invariant_of-self
invariant_of-self c =
    let s : State = record {
      store = c.self.inside.store;
      records = c.self.inside.records.items;
      moment = c.self.inside.moment;
      whole_before = c.self.inside.whole_before;
      next_session = c.self.inside.next_session;
      settled = c.self.inside.settled;
    } in
    right_after c.accept-done.result s c.accept-done.new.self _ c.self.invariant c.journal-sound.ensures.valid
    (accept_grows c.self.inside.store c.args.seat c.args.source c.args.key.now c.args.version c.requires)
    (or_memory _ c.self.inside.store c.accept-done.new.self _ c.accept-done.ensures)
