use Rattle.snapshot.specs.RowMaps.{RowMap}
use Rattle.range_tree.specs.Trees.{IsChange, with_rows}
use Rattle.range_tree.proofs.TreeLaws.{Makes, change_makes}
use Rattle.range_tree.proofs.tree.Tree.change_leaf.Goals as goal
use Rattle.range_tree.proofs.tree.Tree.change_leaf.Goals.{After-dirty}

makes : (c : After-dirty) (m : RowMap) → IsChange c.args.self.now.map c.args.leaf c.args.leaves m
    → Makes (with_rows c.args.self.now c.args.leaf m) c.self.inside.format c.self.inside.bits c.self.inside.range c.args.leaves c.dirty.new.self
makes c m change =
    let i = c.self.inside in
    change_makes c.args.self.now i.format i.bits i.range i.leaves i.marks c.args.leaf m c.args.leaves c.dirty.new.self
    (record { view = c.self.view_is; right = c.self.invariant.0; leaves_are = c.self.invariant.1; format_is = c.self.invariant.2 }) change
    c.dirty.ensures.path

pub invariant_of-self : goal.invariant_of-self
invariant_of-self c =
    let made = makes (goal.at.invariant_of-self c).After-dirty c.requires.0 c.requires.1 in
    (made.right, made.leaves_are, made.format_is)

pub returns : goal.returns
returns c = λ m change. (makes (goal.at.returns c).After-dirty m change).is
