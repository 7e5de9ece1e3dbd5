use Rattle.std.proofs.Common.{None, sym, subst}
use Rattle.range_store.specs.Store.{IsSound}
use Rattle.range_state.specs.CatchUps.{Start, begun_from}
use Rattle.range_state.specs.State.{IsRight}
use Rattle.range_state.proofs.CatchUpLaws.{right_begun}
use Rattle.range_state.proofs.state.renewal.RenewalStart.renewal.Goals as goal

pub invariant_of-state : goal.invariant_of-state
invariant_of-state c =
    let b : Start = record { basis = c.self.inside.basis; front = c.self.inside.front; next_session = c.self.inside.next_session } in
    let made = c.in_ok-store.ensures.1 in
    let sound : IsSound (begun_from b c.args.seat c.args.limit).store = subst IsSound made c.journal-sound.ensures.valid in
    subst IsRight (λ i. record {
      store = sym made i;
      records = sym c.new.ensures.items i;
      moment = None;
      whole_before = 0;
      next_session = b.next_session;
      settled = 0;
    }) (right_begun b c.args.seat c.args.limit sound)
