use Rattle.range_state.proofs.MomentLaws.{digest_after}
use Rattle.range_state.proofs.state.RangeState.install_if_current.Goals as goal

pub returns : goal.returns
returns c = digest_after c.install-changed.result c.args.self.now c.install-changed.new.self c.args.node c.args.hashed.now c.install-changed.ensures
