use Rattle.std.proofs.Common.{sym, subst}
use Rattle.c_calls.specs.KeptRenewals.{KeptRenewal, start_in, at_stage, IsNoLonger, IsRenewal, Builds}
use Rattle.c_calls.specs.declared.kept_renewal.RenewalStage.TheVariants.{Built}
use Rattle.c_calls.proofs.RenewalLaws.{built_within, built, not_built}
use Rattle.c_calls.proofs.kept_renewal.KeptRenewal.build.Goals as goal

pub invariant_of-self : goal.invariant_of-self
invariant_of-self c = subst IsNoLonger (sym c.in-Ok.ensures.1)
    (built_within c.in-Begun.start c.self.inside.limit (subst IsRenewal c.in-Begun.is c.self.invariant))

pub returns-in-Ok : goal.returns-in-Ok
returns-in-Ok c =
    let r : KeptRenewal = record { first = c.self.inside.first; limit = c.self.inside.limit; stage = c.self.inside.stage } in
    subst (λ (old : KeptRenewal). Builds (start_in old.stage) 0 old (at_stage r (Built c.in-Ok.renewal))) c.self.view_is
    (built r c.in-Begun.start c.in-Ok.renewal c.in-Begun.is c.in-Ok.ensures.0 c.in-Ok.ensures.1)

pub returns-in-Err : goal.returns-in-Err
returns-in-Err c =
    let r : KeptRenewal = record { first = c.self.inside.first; limit = c.self.inside.limit; stage = c.self.inside.stage } in
    subst (λ (old : KeptRenewal). Builds (start_in old.stage) c.number.result old old) c.self.view_is
    (not_built r c.in-Begun.start c.number.result c.in-Err.refusal c.in-Begun.is c.number.ensures c.in-Err.ensures)
