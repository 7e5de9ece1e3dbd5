use Rattle.std.proofs.Common.{subst, ◌∙◌}
use Rattle.range_tree.specs.Trees.{RangeTree, AreLeaves}
use Rattle.range_tree.proofs.tree.Tree.rows.Goals as goal

pub returns : goal.returns
returns c =
    let are = subst (λ (t : RangeTree). AreLeaves t.map c.self.inside.leaves) c.self.view_is c.self.invariant.1 in
    c.get.ensures c.get.result.now ∙ are.each c.args.leaf c.get.result.now c.requires
