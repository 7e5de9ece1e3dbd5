use Rattle.std.proofs.Common.{subst}
use Rattle.c_calls.specs.KeptRenewals.{IsRenewal, first_number_fault}
use Rattle.c_calls.proofs.RenewalLaws.{caught_up_within}
use Rattle.c_calls.proofs.kept_renewal.KeptRenewal.catch_up.Goals as goal

pub invariant_of-self-2 : goal.invariant_of-self-2
invariant_of-self-2 c =
    let k = c.args.kept.now in
    caught_up_within (first_number_fault c.self.inside.first k) c.in-Built.renewal c.catch_up_from-outcome.new.renewal k.state c.args.most
    c.catch_up_from-outcome.result (subst IsRenewal c.in-Built.is c.self.invariant) c.catch_up_from-outcome.ensures
