-- Where the nodes of a tree have their places, and the paths to them.
use Rattle.std.proofs.Common.{◌≡◌, ℕ, zero, suc, ◌+◌, ◌*◌, ◌/◌, ◌^◌, ◌<◌, ◌≤◌, Bool, true, false, eqb, Option, List, refl, sym, ap, subst, arith}
use Rattle.std.proofs.Common.{inl, inr}
use Rattle.std.proofs.Math.Nat.{pow-succ'}
use Rattle.std.specs.List.{list_any}
use Rattle.std.proofs.lemmas.Bool.{cases_eq, cases_lt, cases_order, eqb-true, eq-eqb, or_cases, or_left, or_right, false≢true}
use Rattle.vclock.specs.declared.format.Format.{Format}
use Rattle.vclock.specs.declared.format.Format.TheVariants.{One, Two}
use Rattle.tree_nodes.specs.Nodes.{tree_depth, nodes_above, node_count, place_at, path_of, ancestor_of}

-- by place, the digest of each node that has one
abbrev pub Digests : Type 0
Digests = List (Option (List ℕ))

-- ---- places

-- The nodes of a depth stand before those of the next.
pub above_more : (depth : ℕ) → nodes_above (suc depth) ≡ nodes_above depth + 16 ^ depth
above_more zero = omega arith
above_more (suc depth) = omega (arith, above_more depth, pow-succ' 16 depth)

-- The nodes of a depth stand before those of any greater depth.
pub above_below : (depth other : ℕ) → depth < other → nodes_above depth + 16 ^ depth ≤ nodes_above other
above_below depth zero less = absurd (omega arith)
above_below depth (suc other) less = elim (cases_eq depth other) [
  | inl same ↦ subst (λ (d : ℕ). nodes_above d + 16 ^ d ≤ nodes_above (suc other)) (sym same) (omega (arith, above_more other))
  | inr apart ↦ omega (arith, above_below depth other (omega arith))
]

-- Two nodes have two places.
pub same_place : (depth index other at : ℕ) → index < 16 ^ depth → at < 16 ^ other → place_at depth index ≡ place_at other at
    → (depth ≡ other) × (index ≡ at)
same_place depth index other at within here e = elim (cases_order depth other) [
  | inl same ↦ (same, omega (arith, ap (λ (d : ℕ). nodes_above d) same))
  | inr apart ↦ elim apart [
    | inl less ↦ absurd (omega (arith, above_below depth other less))
    | inr more ↦ absurd (omega (arith, above_below other depth more))
  ]
]

-- How many nodes a tree has.
pub node_count_is : (format : Format) → node_count format ≡ nodes_above (suc (tree_depth format))
node_count_is One = refl
node_count_is Two = refl

-- A tree has 4,369 nodes at most.
pub few_nodes : (format : Format) → node_count format ≤ 4369
few_nodes One = omega arith
few_nodes Two = omega arith

-- A tree has the nodes down to its depth.
pub place_within : (format : Format) (depth index : ℕ) → depth ≤ tree_depth format → index < 16 ^ depth → place_at depth index < node_count format
place_within format depth index deep within = omega (arith, node_count_is format, above_below depth (suc (tree_depth format)) (omega arith))

-- A node that a tree has lies no deeper than the leaves.
pub depth_within : (format : Format) (depth index : ℕ) → place_at depth index < node_count format → depth ≤ tree_depth format
depth_within format depth index within = elim (cases_lt (tree_depth format) depth) [
  | inl deeper ↦ absurd (omega (arith, node_count_is format, above_more (tree_depth format), above_below (tree_depth format) depth deeper))
  | inr shallow ↦ shallow
]

-- Where a node's child stands.
pub child_place : (depth index j : ℕ) → place_at (suc depth) (16 * index + j) ≡ 16 * place_at depth index + 1 + j
child_place depth index j = omega arith

-- A node's child has an index of its depth.
pub child_within : (depth index j : ℕ) → index < 16 ^ depth → j < 16 → 16 * index + j < 16 ^ suc depth
child_within depth index j within less = omega (arith, pow-succ' 16 depth)

-- ---- paths

-- whether a place is a node's or lies above it
abbrev pub on_path : ℕ → ℕ → ℕ → Bool
on_path place depth index = list_any (eqb place) (path_of depth index)

-- A node is on its own path.
pub own_path : (depth index : ℕ) → index < 16 ^ depth → on_path (place_at depth index) depth index ≡ true
own_path zero index within = or_left (eqb (place_at zero index) 0) false (eq-eqb (place_at zero index) 0 (omega arith))
own_path (suc depth) index within =
    or_left (eqb (place_at (suc depth) index) (place_at (suc depth) index)) (on_path (place_at (suc depth) index) depth (index / 16))
    (eq-eqb (place_at (suc depth) index) (place_at (suc depth) index) refl)

-- With a child its parent is on a path.
pub on_path_up : (depth index place j : ℕ) → index < 16 ^ depth → j < 16 → on_path (16 * place + 1 + j) depth index ≡ true
    → on_path place depth index ≡ true
on_path_up zero index place j within less on = elim (or_cases (eqb (16 * place + 1 + j) 0) false on) [
  | inl here ↦ absurd (omega (arith, eqb-true (16 * place + 1 + j) 0 here))
  | inr never ↦ absurd (false≢true never)
]
on_path_up (suc depth) index place j within less on =
    let above : index / 16 < 16 ^ depth = omega (arith, pow-succ' 16 depth) in
    or_right (eqb place (place_at (suc depth) index)) (on_path place depth (index / 16))
    (elim (or_cases (eqb (16 * place + 1 + j) (place_at (suc depth) index)) (on_path (16 * place + 1 + j) depth (index / 16)) on) [
      | inl here ↦
          let is : place_at depth (index / 16) ≡ place = omega (arith, eqb-true (16 * place + 1 + j) (place_at (suc depth) index) here) in
          subst (λ (p : ℕ). on_path p depth (index / 16) ≡ true) is (own_path depth (index / 16) above)
      | inr later ↦ on_path_up depth (index / 16) place j above less later
    ])

ancestor_first : (height leaf : ℕ) → ancestor_of height (leaf / 16) ≡ ancestor_of (suc height) leaf
ancestor_first zero leaf = refl
ancestor_first (suc height) leaf = ap (λ (i : ℕ). i / 16) (ancestor_first height leaf)

-- What lies above a leaf is on the leaf's path.
pub ancestor_on_path : (height depth deep leaf : ℕ) → depth + height ≡ deep → leaf < 16 ^ deep
    → on_path (place_at depth (ancestor_of height leaf)) deep leaf ≡ true
ancestor_on_path zero depth deep leaf sum within =
    let same : deep ≡ depth = omega arith in
    subst (λ (d : ℕ). on_path (place_at d leaf) deep leaf ≡ true) same (own_path deep leaf within)
ancestor_on_path (suc height) depth zero leaf sum within = absurd (omega arith)
ancestor_on_path (suc height) depth (suc deep) leaf sum within =
    let place = place_at depth (ancestor_of (suc height) leaf) in
    let rest = ancestor_on_path height depth deep (leaf / 16) (omega arith) (omega (arith, pow-succ' 16 deep)) in
    or_right (eqb place (place_at (suc deep) leaf)) (on_path place deep (leaf / 16))
    (subst (λ (i : ℕ). on_path (place_at depth i) deep (leaf / 16) ≡ true) (ancestor_first height leaf) rest)
