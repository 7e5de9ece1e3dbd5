use Rattle.std.proofs.Common.{◌≡◌, set, None, subst, arith}
use Rattle.std.specs.Prelude.{List}
use Rattle.vclock.specs.Answer.{Answers}
use Rattle.hash_tree.specs.Leaves.{Bucket}
use Rattle.range_tree.specs.Trees.{RangeTree, AreLeaves}
use Rattle.range_tree.proofs.TreeLaws.{leaves_are}
use Rattle.range_tree.proofs.tree.Tree.with_leaf.Goals as goal
use Rattle.range_tree.proofs.tree.Tree.with_leaf.Goals.{After-self}

-- the leaves are those of the rows
are : (c : After-self) → AreLeaves c.args.self.now.map c.self.inside.leaves
are c = subst (λ (t : RangeTree). AreLeaves t.map c.self.inside.leaves) c.self.view_is c.self.invariant.1

pub with_leaf-requires : goal.with_leaf-requires
with_leaf-requires c = omega (arith, (are (goal.at.with_leaf-requires c).After-self).all, c.requires)

pub returns : goal.returns
returns c = subst (λ (xs : List Bucket). Answers c.with_leaf.result None (λ leaves. leaves ≡ set xs c.args.leaf c.args.new))
    (leaves_are c.args.self.now.map c.self.inside.leaves (are (goal.at.returns c).After-self)) c.with_leaf.ensures
