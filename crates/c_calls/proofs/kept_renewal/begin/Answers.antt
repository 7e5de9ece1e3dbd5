use Rattle.std.proofs.Common.{sym, subst, ◌∙◌}
use Rattle.range_state.specs.State.{IsRight}
use Rattle.c_calls.proofs.RenewalLaws.{begun_within}
use Rattle.c_calls.proofs.kept_renewal.begin.Goals as goal

pub invariant_of-renewal : goal.invariant_of-renewal
invariant_of-renewal c =
    begun_within c.state-2.result.now c.in_ok-start.start
    (subst IsRight (c.state.ensures ∙ sym c.state-2.ensures) c.journal-right.ensures.valid) c.in_ok-start.ensures.1
