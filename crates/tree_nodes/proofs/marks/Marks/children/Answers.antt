use Rattle.std.proofs.Common.{◌≡◌, ℕ, ◌<◌, List, Option, sym, ap, subst, ◌∙◌, length}
use Rattle.tree_nodes.specs.Nodes.{Node, IsNode, IsTree, Tree, place_at, children_of, tree_depth}
use Rattle.tree_nodes.proofs.TreeLaws.{sixteen_children}
use Rattle.tree_nodes.proofs.marks.Marks.children.Goals as goal

-- what was looked up are the node's 16 children
looked_up : (t now : Tree) (node : Node) (children : List (Option (List ℕ))) → IsNode 3 node → t ≡ now
    → node.depth < tree_depth now.format → IsTree t → children ≡ children_of t.digests (place_at node.depth node.index)
    → (length children ≡ 16) × (children ≡ children_of now.digests (place_at node.depth node.index))
looked_up t now node children at view inner tree here =
    let inside : node.depth < tree_depth t.format = subst (λ (s : Tree). node.depth < tree_depth s.format) (sym view) inner in (
      ap (λ (xs : List (Option (List ℕ))). length xs) here ∙ sixteen_children t.format t.digests node.depth node.index inside at.within tree.all,
      here ∙ ap (λ (s : Tree). children_of s.digests (place_at node.depth node.index)) view,
    )

pub clean_digests-requires : goal.clean_digests-requires
clean_digests-requires c =
    let found = looked_up (record { format = c.self.inside.format; digests = c.self.inside.digests.items }) c.args.self.now c.args.node
    c.children_at.result.now c.place.ensures.node c.self.view_is c.requires c.self.invariant.tree
    (c.children_at.ensures ∙ (λ i. children_of (c.deref.ensures.value i) (c.place.ensures.place i))) in
    found.0
