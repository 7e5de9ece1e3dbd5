use Rattle.std.proofs.Common.{rules}
use Rattle.range_state.specs.Moments.{moment_fault}
use Rattle.c_calls.specs.KeptRenewals.{BeginsAt}
use Rattle.antientropy_c.specs.RenewalCalls.{renewal_in}
use Rattle.antientropy_c.proofs.MakeLaws.{made_from}
use Rattle.antientropy_c.proofs.renewal_calls.antientropy_share_renewal_begin.Goals as goal

pub returns : goal.returns
returns c =
    let f = c.args.share.now in
    made_from f c.read_into.new.from f.held f.kept c.read_into.result _ (renewal_in c.args.renewal.now) (renewal_in c.read_into.new.into) _ _
    (λ k. moment_fault k.state.moment) (λ k. BeginsAt k c.args.limit) (λ r said. search rules) c.read_into.ensures.same c.read_into.ensures.filled
