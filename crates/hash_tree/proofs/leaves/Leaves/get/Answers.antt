use Rattle.std.proofs.Common.{◌∙◌}
use Rattle.tree_nodes.proofs.BlockLaws.{read_at}
use Rattle.hash_tree.proofs.leaves.Leaves.get.Goals as goal

pub returns : goal.returns
returns c = λ d.
    let is = rw c.deref.ensures at c.index.ensures in
    c.get.ensures d ∙ read_at _ c.args.self.now c.args.leaf c.index.result.now d c.self.view_is c.self.invariant c.requires is
