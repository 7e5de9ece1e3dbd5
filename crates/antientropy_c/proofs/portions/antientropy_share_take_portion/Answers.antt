use Rattle.std.proofs.Common.{None, rules}
use Rattle.range_state.specs.Portions.{IsPortion}
use Rattle.antientropy_c.specs.Portions.{nodes_in}
use Rattle.antientropy_c.proofs.MakeLaws.{made_from}
use Rattle.antientropy_c.proofs.portions.antientropy_share_take_portion.Goals as goal

pub returns : goal.returns
returns c =
    let f = c.args.share.now in
    made_from f c.read_into.new.from f.held f.kept.state c.read_into.result _ (nodes_in c.args.portion.now) (nodes_in c.read_into.new.into) _ _
    (λ s. None) (λ s. IsPortion s.moment c.args.most) (λ r said. search rules) c.read_into.ensures.same c.read_into.ensures.filled
