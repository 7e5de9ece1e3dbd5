use Rattle.std.proofs.Common.{get_or, ◌≡◌, ◌↔◌, ◌<◌, List, ℕ, sym, subst, ap, ◌∙◌, arith}
use Rattle.std.specs.Prelude.{IsTrue}
use Rattle.vclock.specs.declared.format.Format.{Format}
use Rattle.tree_nodes.specs.Nodes.{IsNode, Node, place_of, tree_depth, children_of}
use Rattle.hash_tree.specs.Texts.{inner_text}
use Rattle.range_tree.specs.Trees.{RangeTree, IsRangeTree, AreLeaves}
use Rattle.range_tree.proofs.NodeLaws.{leaf_current, inner_current}
use Rattle.range_tree.proofs.tree.Tree.is_current.Goals as goal
use Rattle.range_tree.proofs.tree.Tree.is_current.Goals.{After-node}

-- the node and the tree are right
node : (c : After-node) → IsNode 3 c.args.node
node c = subst (IsNode 3) c.node.view_is c.node.invariant

right : (c : After-node) → IsRangeTree c.args.self.now
right c = subst IsRangeTree c.self.view_is c.self.invariant.0

-- the format is the tree's
format : (c : After-node) → c.self.inside.format ≡ c.args.self.now.map.format
format c = ap (λ (t : RangeTree). t.map.format) c.self.view_is

pub returns-then-node-tree_depth : goal.returns-then-node-tree_depth
returns-then-node-tree_depth c =
    let at = (goal.at.returns-then-node-tree_depth c).After-node in
    let leaf = c.get.result.now in
    let are = subst (λ (t : RangeTree). AreLeaves t.map c.self.inside.leaves) c.self.view_is c.self.invariant.1 in
    let deep = ap (λ (n : Node). n.depth) (sym c.node.view_is) ∙ c.if-node-tree_depth.true ∙ c.tree_depth.ensures ∙ ap tree_depth (format at) in
    let is = c.get.ensures leaf ∙ ap (λ (n : Node). get_or c.self.inside.leaves n.index leaf) c.node.view_is in
    leaf_current c.args.self.now c.self.inside.leaves c.args.node c.args.text.now leaf c.is_text.result (node at)
    (right at) are deep is c.is_text.ensures

pub returns-in-Some : goal.returns-in-Some
returns-in-Some c =
    let s = c.args.self.now in
    let at = (goal.at.returns-in-Some c).After-node in
    let above : c.args.node.depth < tree_depth s.map.format = omega
    (arith, ap (λ (n : Node). n.depth) c.node.view_is, c.tree_depth-2.ensures, ap tree_depth (format at), c.if-node-tree_depth-2.true) in
    let children = ap (λ (t : RangeTree). children_of t.marks (place_of c.args.node)) (sym c.self.view_is) ∙ c.in-Some.ensures in
    let same = subst (λ (t : List ℕ). IsTrue c.is_inner_text.result ↔ (c.args.text.now ≡ t))
    (ap (λ (f : Format). inner_text f c.in-Some.digests) (format at)) c.is_inner_text.ensures in
    inner_current s c.args.node c.args.text.now c.in-Some.digests c.is_inner_text.result (node at) (right at) above children same
