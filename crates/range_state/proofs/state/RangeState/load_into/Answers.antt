use Rattle.range_state.specs.State.{State}
use Rattle.range_state.proofs.StoreCalls.{load_grows, right_after}
use Rattle.range_state.proofs.state.RangeState.load_into.Goals as goal

pub invariant_of-self : goal.invariant_of-self
invariant_of-self c =
    let s : State = record {
      store = c.self.inside.store;
      records = c.self.inside.records.items;
      moment = c.self.inside.moment;
      whole_before = c.self.inside.whole_before;
      next_session = c.self.inside.next_session;
      settled = c.self.inside.settled;
    } in
    right_after c.load_into-done.result s c.load_into-done.new.self _ c.self.invariant c.journal-sound.ensures.valid
    (load_grows c.self.inside.store c.args.seat c.args.rows.now.rows) c.load_into-done.ensures.loads
