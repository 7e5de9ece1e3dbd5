use Rattle.std.proofs.Common.{◌∙◌, ap, arith}
use Rattle.sync_session.specs.Walks.{differing}
use Rattle.sync_session.proofs.node_list.differing.Goals as goal

pub returns : goal.returns
returns c = c.loop-j.invariant ∙ ap (differing c.args.own.now c.args.node c.args.text.now) (omega arith)
