use Rattle.range_store.specs.declared.context_test.ContextTest.TheVariants.{Read}
use Rattle.range_state.specs.State.{State}
use Rattle.range_state.proofs.StoreCalls.{put_grows, right_after}
use Rattle.range_state.proofs.state.RangeState.put_read.Goals as goal

pub invariant_of-self : goal.invariant_of-self
invariant_of-self c =
    let s : State = record {
      store = c.self.inside.store;
      records = c.self.inside.records.items;
      moment = c.self.inside.moment;
      whole_before = c.self.inside.whole_before;
      next_session = c.self.inside.next_session;
      settled = c.self.inside.settled;
    } in
    right_after c.put-done.result s c.put-done.new.self _ c.self.invariant c.journal-sound.ensures.valid
    (put_grows Read c.self.inside.store c.args.seat c.args.at c.args.key.now c.args.context.now c.args.kind c.args.value) c.put-done.ensures.puts
