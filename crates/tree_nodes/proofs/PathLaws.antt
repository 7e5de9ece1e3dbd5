-- Making the places of a path dirty, one after another.
use Rattle.std.proofs.Common.{◌≡◌, ℕ, zero, suc, ◌+◌, ◌-◌, ◌/◌, ◌^◌, ◌<◌, cond, eqb, ◌||◌, Option, Some, None, List, [], ◌∷◌, length, set, refl, sym}
use Rattle.std.proofs.Common.{ap, ◌∙◌, arith, inl, inr}
use Rattle.std.proofs.Math.Nat.{pow-succ'}
use Rattle.std.specs.Prelude.{map}
use Rattle.std.specs.List.{list_any, range_with_len}
use Rattle.std.proofs.lemmas.Bool.{cond_both, cases_eq, cond-true, or_left, eq-eqb, ne_eqb}
use Rattle.std.proofs.lemmas.List.{get_or-set_same, get_or-set_other, length-set}
use Rattle.std.proofs.lemmas.List.FromFn.{get_or-map-range_with_len, length-map-range_with_len, fill_by_all}
use Rattle.vclock.specs.declared.format.Format.{Format}
use Rattle.tree_nodes.proofs.PlaceLaws.{Digests}
use Rattle.tree_nodes.specs.Nodes.{Node, parent_of, parent_at, place_of, tree_depth, place_at, path_of, kept_digest, dirtied}

-- the digests with some places dirty
unfoldable pub cleared : List ℕ → Digests → Digests
cleared places digests = map (λ (place : ℕ). cond (list_any (eqb place) places) None (kept_digest digests place)) (range_with_len 0 (length digests))

-- A leaf's path is made dirty by making each of its places dirty.
pub dirtied_is : (format : Format) (leaf : ℕ) (digests : Digests) → dirtied format leaf digests ≡ cleared (path_of (tree_depth format) leaf) digests
unfolding cleared dirtied
dirtied_is format leaf digests = refl

-- Nothing is left to do.
pub cleared_none : (digests : Digests) → cleared [] digests ≡ digests
unfolding cleared
cleared_none digests = sym (fill_by_all (kept_digest digests) digests (length digests) None refl (λ k less. refl))

-- One place after another.
pub cleared_first : (place : ℕ) (places : List ℕ) (digests : Digests) → cleared places (set digests place None) ≡ cleared (place ∷ places) digests
unfolding cleared
cleared_first place places digests =
    let new = set digests place None in
    let f = λ (k : ℕ). cond (list_any (eqb k) places) None (kept_digest new k) in
    let g = λ (k : ℕ). cond (list_any (eqb k) (place ∷ places)) None (kept_digest digests k) in
    fill_by_all g (map f (range_with_len 0 (length new))) (length digests) None
    (length-map-range_with_len f 0 (length new) ∙ length-set digests place None)
    (λ k less. get_or-map-range_with_len f 0 (length new) k k None (omega (arith, length-set digests place (no_digest))) (omega arith)
    ∙ at digests place places k less)
  where
    no_digest : Option (List ℕ)
    no_digest = None

    at : (digests : Digests) (place : ℕ) (places : List ℕ) (k : ℕ) → k < length digests
        → cond (list_any (eqb k) places) None (kept_digest (set digests place None) k) ≡ cond (eqb k place || list_any (eqb k) places) None
        (kept_digest digests k)
    at digests place places k less = elim (cases_eq k place) [
      | inl same ↦
          let here : kept_digest (set digests place None) k ≡ None = rw same (get_or-set_same digests place no_digest None (omega (arith, same))) in
          cond_both (list_any (eqb k) places) no_digest (kept_digest (set digests place None) k) (λ (o : Option (List ℕ)). o ≡ None) (λ on. refl)
          (λ off. here)
          ∙ sym (cond-true (eqb k place || list_any (eqb k) places) no_digest (kept_digest digests k)
          (or_left (eqb k place) (list_any (eqb k) places) (eq-eqb k place same)))
      | inr other ↦ rw (ne_eqb k place other, get_or-set_other digests place k no_digest None other) refl
    ]

-- ---- from node to node

-- the places that are left, from a node up
abbrev pub path_left : Option Node → List ℕ
path_left None = []
path_left (Some node) = path_of node.depth node.index

-- how many places are left
abbrev pub steps_left : Option Node → ℕ
steps_left None = 0
steps_left (Some node) = node.depth + 1

-- A node's path is its place and the path of the node above.
pub path_step : (node : Node) → node.index < 16 ^ node.depth → place_of node ∷ path_left (parent_of node) ≡ path_of node.depth node.index
path_step node within = at node.depth node.index within
  where
    at : (depth index : ℕ) → index < 16 ^ depth → place_at depth index ∷ path_left (parent_at depth index) ≡ path_of depth index
    at zero index within = ap (λ (p : ℕ). p ∷ []) (omega arith)
    at (suc depth) index within = refl

-- As many places are left above a node as its depth says.
pub path_shorter : (node : Node) → steps_left (parent_of node) ≡ node.depth
path_shorter node = at node.depth node.index
  where
    at : (depth index : ℕ) → steps_left (parent_at depth index) ≡ depth
    at zero index = refl
    at (suc depth) index = omega arith

-- The node above another has an index of its depth.
pub parent_within : (depth index : ℕ) → 0 < depth → index < 16 ^ depth → index / 16 < 16 ^ (depth - 1)
parent_within zero index some within = absurd (omega arith)
parent_within (suc depth) index some within =
    let up : suc depth - 1 ≡ depth = omega arith in
    rw up (omega (arith, pow-succ' 16 depth))
