use mir.Val.{bool_byte}
use Rattle.std.proofs.Common.{◌≡◌, ℕ, ◌+◌, ◌<◌, ◌≤◌, Bool, true, not, is_some, List, Option, Some, None, length, arith, set, get_or, sym, ap, subst}
use Rattle.std.proofs.Common.{◌∙◌}
use Rattle.std.proofs.lemmas.List.{with_items_is, get_or_default, length-set}
use Rattle.tree_nodes.specs.Nodes.{Node, IsNode, IsTree, Tree, tree_depth, place_at, kept_digest, children_of, are_clean, dirty_count}
use Rattle.tree_nodes.specs.Blocks.{AreCopies, AreMarks}
use Rattle.tree_nodes.proofs.CopyLaws.{Copies}
use Rattle.tree_nodes.proofs.DirtyLaws.{dirty_in, dirty_byte, count_set}
use Rattle.tree_nodes.proofs.PlaceLaws.{Digests, place_within}
use Rattle.tree_nodes.proofs.TreeLaws.{tree_set}
use Rattle.tree_nodes.proofs.marks.Marks.set.Goals as goal

-- the node has its place
inside : (t now : Tree) (node : Node) (place : ℕ) → IsNode 3 node → place ≡ place_at node.depth node.index → t ≡ now
    → node.depth ≤ tree_depth now.format → IsTree t → place < length t.digests
inside t now node place at is view has tree =
    let deep : node.depth ≤ tree_depth t.format = subst (λ (s : Tree). node.depth ≤ tree_depth s.format) (sym view) has in
    omega (arith, is, place_within t.format node.depth node.index deep at.within, tree.all)

pub index_mut-requires : goal.index_mut-requires
index_mut-requires c =
    let within = inside (record { format = c.self.inside.format; digests = c.self.inside.digests.items }) c.args.self.now c.args.node
    c.place-place.result c.place-place.ensures.node c.place-place.ensures.place c.self.view_is c.requires.has c.self.invariant.tree in
    omega (arith, within)

pub drop_block-requires : goal.drop_block-requires
drop_block-requires c =
    let within = inside (record { format = c.self.inside.format; digests = c.self.inside.digests.items }) c.args.self.now c.args.node
    c.place-place.result c.place-place.ensures.node c.place-place.ensures.place c.self.view_is c.requires.has c.self.invariant.tree in
    omega (arith, within, c.self.invariant.copies.all, ap (λ (bs : Copies). length bs) c.deref_mut.ensures.value)

-- what is written keeps the tree
valid : (t now : Tree) (node : Node) (place : ℕ) (d : List ℕ) → IsNode 3 node → place ≡ place_at node.depth node.index → t ≡ now
    → node.depth ≤ tree_depth now.format → are_clean (children_of now.digests (place_at node.depth node.index)) ≡ true
    → IsTree t → IsTree (record { format = t.format; digests = set t.digests place (Some d) })
valid t now node place d at is view has children tree =
    let deep : node.depth ≤ tree_depth t.format = subst (λ (s : Tree). node.depth ≤ tree_depth s.format) (sym view) has in
    let clean : are_clean (children_of t.digests (place_at node.depth node.index)) ≡ true = subst
    (λ (s : Tree). are_clean (children_of s.digests (place_at node.depth node.index)) ≡ true) (sym view) children in
    rw is (tree_set t.format (place_at node.depth node.index) d t.digests (place_within t.format node.depth node.index deep at.within) clean tree)

pub index-requires : goal.index-requires
index-requires c =
    let within = inside (record { format = c.self.inside.format; digests = c.self.inside.digests.items }) c.args.self.now c.args.node
    c.place-place.result c.place-place.ensures.node c.place-place.ensures.place c.self.view_is c.requires.has c.self.invariant.tree in
    omega (arith, within)

-- the number of clean nodes after one was set
counted : (digests : Digests) (place clean byte : ℕ) (b : Bool) (o : Option (List ℕ)) (d : List ℕ) → place < length digests
    → clean + dirty_count digests ≡ length digests → is_some o ≡ not b → o ≡ kept_digest digests place → byte ≡ bool_byte b
    → clean + byte + dirty_count (set digests place (Some d)) ≡ length (set digests place (Some d))
counted digests place clean byte b o d within is some here one =
    let byte_is : byte ≡ dirty_in (kept_digest digests place) = one ∙ dirty_byte o b some ∙ ap dirty_in here in
    omega (arith, byte_is, is, count_set digests place (Some d) within, length-set digests place (Some d))

-- what was read is the node's digest
read : (digests : Digests) (place : ℕ) (o : Option (List ℕ)) → place < length digests → o ≡ get_or digests place o → o ≡ kept_digest digests place
read digests place o within is = is ∙ sym (get_or_default digests place None o within)

pub invariant_of-self : goal.invariant_of-self
invariant_of-self c =
    let s = c.self.inside in
    let place = c.place-place.result in
    let within = inside (record { format = s.format; digests = s.digests.items }) c.args.self.now c.args.node c.place-place.result
    c.place-place.ensures.node c.place-place.ensures.place c.self.view_is c.requires.has c.self.invariant.tree in
    let tree = valid (record { format = s.format; digests = s.digests.items }) c.args.self.now c.args.node place c.args.digest
    c.place-place.ensures.node c.place-place.ensures.place c.self.view_is c.requires.has c.requires.children c.self.invariant.tree in
    let now = counted s.digests.items place s.clean c.from.result c.is_none.result c.index.result.now c.args.digest within c.self.invariant.counted
    c.is_none.ensures (read s.digests.items place c.index.result.now within c.index.ensures) c.from.ensures in
    let blocks = with_items_is s.blocks c.drop_block.new.blocks (omega (arith, c.drop_block.auto.blocks, c.deref_mut.ensures.len)) in
    let copies = c.drop_block.ensures s.digests.items (Some c.args.digest)
    (subst (AreCopies s.digests.items) (sym c.deref_mut.ensures.value) c.self.invariant.copies) in
    subst (λ (bs : Copies). AreMarks s.format (set s.digests.items place (Some c.args.digest)) (s.clean + c.from.result) bs None) (sym blocks)
    (record { tree = tree; counted = now; copies = copies; whole = tt })

pub returns-clause-valid : goal.returns-clause-valid
returns-clause-valid c =
    valid (record { format = c.self.inside.format; digests = c.self.inside.digests.items }) c.args.self.now c.args.node c.place-place.result
    c.args.digest c.place-place.ensures.node c.place-place.ensures.place c.self.view_is c.requires.has c.requires.children c.self.invariant.tree
