use Rattle.std.proofs.Common.{refl, subst}
use Rattle.range_state.specs.State.{State, with_store}
use Rattle.range_state.specs.Trees.{HashesSome}
use Rattle.range_state.proofs.StoreCalls.{right_hashed}
use Rattle.range_state.proofs.state.RangeState.rehash_some.Goals as goal

pub invariant_of-self : goal.invariant_of-self
invariant_of-self c =
    let s : State = record {
      store = c.self.inside.store;
      records = c.self.inside.records.items;
      moment = c.self.inside.moment;
      whole_before = c.self.inside.whole_before;
      next_session = c.self.inside.next_session;
      settled = c.self.inside.settled;
    } in
    right_hashed s c.rehash_some-done.new.self c.self.invariant c.journal-sound.ensures.valid c.rehash_some-done.ensures.0

pub returns : goal.returns
returns c =
    let s : State = record {
      store = c.self.inside.store;
      records = c.self.inside.records.items;
      moment = c.self.inside.moment;
      whole_before = c.self.inside.whole_before;
      next_session = c.self.inside.next_session;
      settled = c.self.inside.settled;
    } in
    subst (λ (t : State). HashesSome c.rehash_some-done.result c.args.most t (with_store s c.rehash_some-done.new.self)) c.self.view_is
    (c.rehash_some-done.ensures, refl)
