-- Making the nodes of a path dirty, from the leaf up to the first dirty node.
use Rattle.std.proofs.Common.{◌≡◌, ℕ, zero, suc, ◌+◌, ◌*◌, ◌^◌, ◌<◌, true, is_some, Option, Some, None, List, length, set, refl, sym, ap, ◌∙◌, arith}
use Rattle.std.proofs.Common.{inl, inr}
use Rattle.std.specs.Prelude.{◌⊎◌}
use Rattle.std.proofs.lemmas.Bool.{cases_eq}
use Rattle.std.proofs.lemmas.List.{get_or-set_same, get_or-set_other, length-set}
use Rattle.vclock.specs.declared.format.Format.{Format}
use Rattle.tree_nodes.specs.Nodes.{Node, parent_of, parent_at, place_of, tree_depth, node_count, place_at, path_of, kept_digest, dirty_count}
use Rattle.tree_nodes.specs.Nodes.{dirtied, AreCleanBelow, IsTree}
use Rattle.tree_nodes.proofs.PlaceLaws.{Digests, place_within}
use Rattle.tree_nodes.proofs.PathLaws.{cleared, cleared_none, cleared_first, dirtied_is, path_left, steps_left, path_step, path_shorter}
use Rattle.tree_nodes.proofs.DirtyLaws.{dirty_in, count_set, cleared_dirty}

-- a place is that of the next node
abbrev pub IsNext : Option Node → ℕ → Type 0
IsNext None place = ⊥
IsNext (Some node) place = place ≡ place_of node

-- The digests on the way: to make dirty what is left of the path is what is wanted. The parent of a dirty node is dirty,
-- or is the next one.
pub record IsClearing (format : Format) (leaf : ℕ) (start : Digests) (next : Option Node) (count : ℕ) (digests : Digests) : Type 0 where
  pub path : cleared (path_left next) digests ≡ dirtied format leaf start
  pub all : length digests ≡ node_count format
  pub steps : count + steps_left next ≡ suc (tree_depth format)
  pub below : (place j : ℕ) → j < 16 → 16 * place + 1 + j < length digests → kept_digest digests (16 * place + 1 + j) ≡ None
      → (kept_digest digests place ≡ None) ⊎ IsNext next place
  pub counted : dirty_count digests ≡ dirty_count start + count

-- At first the leaf's path is left.
pub clearing_begins : (format : Format) (leaf : ℕ) (start : Digests) (node : Node) → node.depth ≡ tree_depth format → node.index ≡ leaf
    → IsTree (record { format = format; digests = start }) → IsClearing format leaf start (Some node) 0 start
unfolding AreCleanBelow
clearing_begins format leaf start node deep at tree = record {
  path = (λ i. cleared (path_of (deep i) (at i)) start) ∙ sym (dirtied_is format leaf start);
  all = tree.all;
  steps = omega (arith, deep);
  below = λ place j less within dirty. inl (tree.below place j less within dirty);
  counted = omega arith;
}

-- The next node has its place.
pub clearing_within : (format : Format) (leaf : ℕ) (start : Digests) (node : Node) (count : ℕ) (digests : Digests) → node.index < 16 ^ node.depth
    → IsClearing format leaf start (Some node) count digests → place_of node < length digests
clearing_within format leaf start node count digests here before =
    omega (arith, before.all, place_within format node.depth node.index (omega (arith, before.steps)) here)

-- the parent of a node's place is that of the node above
parent_next : (node : Node) (place j : ℕ) → node.index < 16 ^ node.depth → j < 16 → 16 * place + 1 + j ≡ place_of node → IsNext (parent_of node) place
parent_next node place j within less is = at node.depth node.index within is
  where
    at : (depth index : ℕ) → index < 16 ^ depth → 16 * place + 1 + j ≡ place_at depth index → IsNext (parent_at depth index) place
    at zero index within is = absurd (omega (arith, is))
    at (suc depth) index within is = omega (arith, is, less)

-- Then that of the node above.
pub clearing_goes_on : (format : Format) (leaf : ℕ) (start : Digests) (node : Node) (count : ℕ) (digests : Digests) → node.index < 16 ^ node.depth
    → IsClearing format leaf start (Some node) count digests → is_some (kept_digest digests (place_of node)) ≡ true
    → IsClearing format leaf start (parent_of node) (count + 1) (set digests (place_of node) None)
clearing_goes_on format leaf start node count digests is_node before clean = record {
  path = cleared_first here (path_left (parent_of node)) digests ∙ ap (λ (places : List ℕ). cleared places digests) (path_step node is_node)
      ∙ before.path;
  all = length-set digests here none ∙ before.all;
  steps = omega (arith, path_shorter node, before.steps);
  below = λ place j less within dirty. elim (cases_eq (16 * place + 1 + j) here) [
    | inl is ↦ inr (parent_next node place j is_node less is)
    | inr other ↦
        let old = sym (get_or-set_other digests here (16 * place + 1 + j) none None other) ∙ dirty in
        elim (before.below place j less (omega (arith, within, length-set digests here none)) old) [
          | inl parent ↦ inl (still place parent)
          | inr next ↦ inl (rw next (get_or-set_same digests here none None inside))
        ]
  ];
  counted = omega (arith, count_set digests here none inside, clean_in (kept_digest digests here) clean, before.counted);
}
  where
    none : Option (List ℕ)
    none = None

    here : ℕ
    here = place_of node

    inside : here < length digests
    inside = clearing_within format leaf start node count digests is_node before

    clean_in : (o : Option (List ℕ)) → is_some o ≡ true → dirty_in o ≡ 0
    clean_in None clean = absurd (cc)
    clean_in (Some d) clean = refl

    still : (place : ℕ) → kept_digest digests place ≡ None → kept_digest (set digests here none) place ≡ None
    still place dirty = elim (cases_eq place here) [
      | inl is ↦ rw is (get_or-set_same digests here none None inside)
      | inr other ↦ get_or-set_other digests here place none None other ∙ dirty
    ]

-- At a dirty node nothing is left, nor behind the root.
pub clearing_stops : (format : Format) (leaf : ℕ) (start : Digests) (node : Node) (count : ℕ) (digests : Digests) → node.index < 16 ^ node.depth
    → IsClearing format leaf start (Some node) count digests → kept_digest digests (place_of node) ≡ None → digests ≡ dirtied format leaf start
unfolding AreCleanBelow
clearing_stops format leaf start node count digests within before dirty =
    let below : AreCleanBelow digests = λ place j less inside none. elim (before.below place j less inside none) [
      | inl parent ↦ parent
      | inr next ↦ rw next dirty
    ] in
    sym (cleared_dirty node.depth node.index digests below within (clearing_within format leaf start node count digests within before) dirty)
    ∙ before.path

pub clearing_done : (format : Format) (leaf : ℕ) (start : Digests) (count : ℕ) (digests : Digests) → IsClearing format leaf start None count digests
    → digests ≡ dirtied format leaf start
clearing_done format leaf start count digests before = sym (cleared_none digests) ∙ before.path
