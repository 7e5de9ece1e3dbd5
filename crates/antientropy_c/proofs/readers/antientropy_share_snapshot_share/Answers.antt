use Rattle.std.proofs.Common.{◌≡◌, None, rules}
use Rattle.antientropy_c.specs.Offers.{shown_in}
use Rattle.antientropy_c.proofs.MakeLaws.{made_from}
use Rattle.antientropy_c.proofs.readers.antientropy_share_snapshot_share.Goals as goal

pub returns : goal.returns
returns c =
    let f = c.args.share.now in
    made_from f c.read_into.new.from f.held f.shown c.read_into.result _ (shown_in c.args.other.now) (shown_in c.read_into.new.into) _ _ (λ m. None)
    (λ m x. x ≡ m) (λ r said. search rules) c.read_into.ensures.same c.read_into.ensures.filled
