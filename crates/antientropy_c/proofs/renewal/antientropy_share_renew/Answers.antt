use Rattle.std.proofs.Common.{◌≡◌, rules}
use Rattle.antientropy_c.specs.Calls.{replica_in}
use Rattle.c_calls.specs.Kept.{renewal_fault, renewed_kept}
use Rattle.antientropy_c.proofs.MakeLaws.{made_from}
use Rattle.antientropy_c.proofs.renewal.antientropy_share_renew.Goals as goal

pub returns : goal.returns
returns c =
    let f = c.args.share.now in
    made_from f c.read_into.new.from f.held f.kept c.read_into.result _ (replica_in c.args.into.now) (replica_in c.read_into.new.into) _ _
    (λ s. renewal_fault s c.args.limit) (λ s new. new ≡ renewed_kept s c.args.limit)
    (λ r said. search rules) c.read_into.ensures.same c.read_into.ensures.filled
