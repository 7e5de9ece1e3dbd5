use Rattle.std.proofs.Common.{refl}
use Rattle.range_tree.specs.Trees.{bare, all_dirty}
use Rattle.range_tree.proofs.TreeLaws.{Makes, made, bare_right, bare_leaves}
use Rattle.range_tree.proofs.tree.Tree.empty.Goals as goal
use Rattle.range_tree.proofs.tree.Tree.empty.Goals.{In_ok-new}

makes : (c : In_ok-new) → Makes
    (bare c.args.format c.args.bits c.args.range) c.args.format c.args.bits c.args.range c.in_ok-empty.field-0 c.in_ok-new.field-0
unfolding all_dirty
makes c =
    let f = c.args.format in
    made (bare f c.args.bits c.args.range) f c.args.bits c.args.range c.in_ok-empty.field-0 c.in_ok-new.field-0
    (bare_right f c.args.bits c.args.range c.requires.few c.requires.range)
    (bare_leaves f c.args.bits c.args.range c.in_ok-empty.field-0 c.in_ok-empty.ensures.1) refl refl refl c.in_ok-new.ensures.1

pub invariant_of-result : goal.invariant_of-result
invariant_of-result c =
    let tree = makes (goal.at.invariant_of-result c).In_ok-new in
    (tree.right, tree.leaves_are, tree.format_is)

pub returns : goal.returns
returns c = (refl, (makes (goal.at.returns c).In_ok-new).is)
