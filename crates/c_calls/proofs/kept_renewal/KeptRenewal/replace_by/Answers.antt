use Rattle.c_calls.specs.KeptRenewals.{finish_fault}
use Rattle.c_calls.proofs.RenewalLaws.{behind_within}
use Rattle.c_calls.proofs.kept_renewal.KeptRenewal.replace_by.Goals as goal

pub invariant_of-self-in-Err : goal.invariant_of-self-in-Err
invariant_of-self-in-Err c =
    let u = c.in-Err.unfinished in
    behind_within (finish_fault c.self.inside.first c.args.kept.now) c.args.renewal u.renewal c.args.kept.now.state u.refusal c.requires
    c.in-Err.ensures.refused.1
