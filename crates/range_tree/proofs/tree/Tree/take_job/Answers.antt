use Rattle.std.proofs.Common.{refl}
use Rattle.tree_nodes.proofs.ReadyLaws.{none_ready}
use Rattle.range_tree.proofs.tree.Tree.take_job.Goals as goal

pub returns-in-None : goal.returns-in-None
returns-in-None c = (refl, none_ready c.args.self.now.marks c.in-None.ensures)
