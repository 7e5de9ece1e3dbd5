use Rattle.range_state.specs.State.{State}
use Rattle.range_state.proofs.StoreCalls.{right_rehashed}
use Rattle.range_state.proofs.state.RangeState.rehash_here.Goals as goal

pub invariant_of-self : goal.invariant_of-self
invariant_of-self c =
    let s : State = record {
      store = c.self.inside.store;
      records = c.self.inside.records.items;
      moment = c.self.inside.moment;
      whole_before = c.self.inside.whole_before;
      next_session = c.self.inside.next_session;
      settled = c.self.inside.settled;
    } in
    right_rehashed s c.rehash_here-done.new.self c.self.invariant c.journal-sound.ensures.valid c.rehash_here-done.ensures.same
