use Rattle.std.proofs.Common.{◌∙◌}
use Rattle.antientropy_c.specs.RenewalCalls.{renewal_in}
use Rattle.antientropy_c.proofs.CallLaws.{held}
use Rattle.antientropy_c.proofs.renewal_calls.antientropy_share_renewal_catch_up.Goals as goal

pub returns : goal.returns
returns c =
    held c.catch_up_with-result.result (renewal_in c.args.renewal.now)
    (renewal_in c.hold.new.self) _ _ c.deref_mut.result.now c.catch_up_with-result.new.renewal c.in-Some.ensures.value.0 c.hold.ensures.held
    (c.deref_mut.ensures.value ∙ c.in-Some.ensures.value.1) c.hold.ensures.value c.catch_up_with-result.ensures
