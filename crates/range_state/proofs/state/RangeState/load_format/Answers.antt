use Rattle.range_state.specs.State.{State}
use Rattle.range_state.proofs.StoreCalls.{load_format_grows, right_after}
use Rattle.range_state.proofs.state.RangeState.load_format.Goals as goal

pub invariant_of-self : goal.invariant_of-self
invariant_of-self c =
    let s : State = record {
      store = c.self.inside.store;
      records = c.self.inside.records.items;
      moment = c.self.inside.moment;
      whole_before = c.self.inside.whole_before;
      next_session = c.self.inside.next_session;
      settled = c.self.inside.settled;
    } in
    right_after c.load_format-done.result s c.load_format-done.new.self _ c.self.invariant c.journal-sound.ensures.valid
    (load_format_grows c.self.inside.store c.args.seat c.args.format c.args.text.now) c.load_format-done.ensures
