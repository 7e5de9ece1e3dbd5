use Rattle.std.proofs.Common.{arith}
use Rattle.tree_nodes.proofs.PathLaws.{parent_within}
use Rattle.tree_nodes.proofs.node.NodeAt.parent.Goals as goal

pub invariant_of-result : goal.invariant_of-result
invariant_of-result c = record {
  shallow = omega (arith, c.self.invariant.shallow);
  within = parent_within c.self.inside.depth c.self.inside.index (omega arith) c.self.invariant.within;
}
