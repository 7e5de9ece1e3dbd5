use Rattle.range_state.specs.State.{State}
use Rattle.range_state.proofs.StoreCalls.{at_once, install_grows, right_after}
use Rattle.range_state.proofs.state.RangeState.install.Goals as goal

pub invariant_of-self : goal.invariant_of-self
invariant_of-self c =
    let s : State = record {
      store = c.self.inside.store;
      records = c.self.inside.records.items;
      moment = c.self.inside.moment;
      whole_before = c.self.inside.whole_before;
      next_session = c.self.inside.next_session;
      settled = c.self.inside.settled;
    } in
    right_after c.install-done.result s c.install-done.new.self _ c.self.invariant c.journal-sound.ensures.valid
    (install_grows c.self.inside.store c.args.node c.args.hashed.now)
    (at_once _ c.self.inside.store c.install-done.new.self _ c.install-done.ensures)
