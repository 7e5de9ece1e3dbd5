use Rattle.std.proofs.Common.{get_or, ◌≡◌, ◌<◌, List, ℕ, None, sym, subst, ap, ◌∙◌, arith}
use Rattle.vclock.specs.Answer.{Answers}
use Rattle.vclock.specs.declared.format.Format.{Format}
use Rattle.hash_tree.specs.Leaves.{Bucket}
use Rattle.tree_nodes.specs.Nodes.{IsNode, Node, place_of, tree_depth, children_of}
use Rattle.hash_tree.specs.Texts.{leaf_text, inner_text}
use Rattle.rehash.specs.Jobs.{NodeText}
use Rattle.range_tree.specs.Trees.{RangeTree, IsRangeTree, AreLeaves}
use Rattle.range_tree.proofs.NodeLaws.{has_within, leaf_text_here, inner_text_here}
use Rattle.range_tree.proofs.tree.Tree.job_of.Goals as goal
use Rattle.range_tree.proofs.tree.Tree.job_of.Goals.{After-node}

-- the node has an index of its depth
node : (c : After-node) → IsNode 3 c.args.node
node c = subst (IsNode 3) c.node.view_is c.node.invariant

-- the format is the tree's
format : (c : After-node) → c.self.inside.format ≡ c.args.self.now.map.format
format c = ap (λ (t : RangeTree). t.map.format) c.self.view_is

pub returns-then-node-tree_depth : goal.returns-then-node-tree_depth
returns-then-node-tree_depth c =
    let at = (goal.at.returns-then-node-tree_depth c).After-node in
    let leaf = c.get.result.now in
    let are = subst (λ (t : RangeTree). AreLeaves t.map c.self.inside.leaves) c.self.view_is c.self.invariant.1 in
    let deep = ap (λ (n : Node). n.depth) (sym c.node.view_is) ∙ c.if-node-tree_depth.true ∙ c.tree_depth.ensures ∙ ap tree_depth (format at) in
    let is = c.get.ensures leaf ∙ ap (λ (n : Node). get_or c.self.inside.leaves n.index leaf) c.node.view_is in
    let text = ap (λ (b : Bucket). leaf_text b.format b.rows) c.in_ok-leaf.ensures.1
    ∙ (leaf_text_here c.args.self.now c.self.inside.leaves c.args.node leaf (node at) are deep is).1 in
    subst (λ (t : List ℕ). Answers c.of_leaf.result None (λ (job : NodeText). job ≡ record { node = c.args.node; text = t })) text c.of_leaf.ensures

pub returns : goal.returns
returns c =
    let s = c.args.self.now in
    let at = (goal.at.returns c).After-node in
    let has = has_within s c.args.node c.requires.has in
    let above : c.args.node.depth < tree_depth s.map.format = omega (
      arith,
      has.shallow,
      c.tree_depth.ensures,
      ap tree_depth (format at),
      ap (λ (n : Node). n.depth) c.node.view_is,
      c.if-node-tree_depth.false,
    ) in
    let children = ap (λ (t : RangeTree). children_of t.marks (place_of c.args.node)) (sym c.self.view_is) ∙ c.in-Some.ensures in
    let text = ap (λ (f : Format). inner_text f c.in-Some.digests) (format at)
    ∙ inner_text_here s c.args.node c.in-Some.digests (node at) (subst IsRangeTree c.self.view_is c.self.invariant.0) above children in
    subst (λ (t : List ℕ). Answers c.of_children.result None (λ (job : NodeText). job ≡ record { node = c.args.node; text = t })) text
    c.of_children.ensures
