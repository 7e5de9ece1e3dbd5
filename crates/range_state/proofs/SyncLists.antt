-- Lists of nodes by depth and then by index: two that have the same nodes are equal.
use Rattle.std.proofs.Common.{◌≡◌, ℕ, zero, suc, ◌+◌, ◌^◌, ◌<◌, ◌≤◌, ◌⊎◌, Bool, true, false, not, cond, List, [], ◌∷◌, ◌++◌, length, refl, sym, ap}
use Rattle.std.proofs.Common.{subst, ◌∙◌, arith, inl, inr}
use Rattle.std.specs.List.{filter, AllByRecursion}
use Rattle.std.proofs.lemmas.Bool.{cases_lt, or_cases, or_left, or_right, false_from_ne_true}
use Rattle.version_set.proofs.ListLaws.{all-append, all-filter}
use Rattle.tree_nodes.specs.Nodes.{Node, is_same_node, contains_node, place_of, tree_depth, nodes_above}
use Rattle.tree_nodes.proofs.PlaceLaws.{above_below}
use Rattle.snapshot.specs.RowMaps.{RowMap}
use Rattle.sync_session.specs.Differing.{first_of_level, nodes_above_depth, all_nodes, differ, AscendByPlace}
use Rattle.sync_session.proofs.StepLaws.{All-weaker}
use Rattle.sync_session.proofs.DescentLaws.{is_node-true, is_node-same}

-- ---- nodes of a list

pub member_of : (n x : Node) (xs : List Node) → contains_node n (x ∷ xs) ≡ true → (n ≡ x) ⊎ (contains_node n xs ≡ true)
member_of n x xs h = elim (or_cases (is_same_node n x) (contains_node n xs) h) [
  | inl here ↦ inl (is_node-true n x here)
  | inr later ↦ inr later
]

pub has_head : (x : Node) (xs : List Node) → contains_node x (x ∷ xs) ≡ true
has_head x xs = or_left (is_same_node x x) (contains_node x xs) (is_node-same x)

has_tail : (n x : Node) (xs : List Node) → contains_node n xs ≡ true → contains_node n (x ∷ xs) ≡ true
has_tail n x xs h = or_right (is_same_node n x) (contains_node n xs) h

pub all_has : (P : Node → Type 0) (xs : List Node) → AllByRecursion P xs → (n : Node) → contains_node n xs ≡ true → P n
all_has P [] all n h = absurd (let clash : false ≡ true = h in cc)
all_has P (x ∷ xs) all n h = elim (member_of n x xs h) [
  | inl is ↦ subst P (sym is) all.0
  | inr later ↦ all_has P xs all.1 n later
]

-- each node of the one list is in the other
abbrev pub AreIn : List Node → List Node → Type 0
AreIn xs ys = (n : Node) → contains_node n xs ≡ true → contains_node n ys ≡ true

drop_head : (y : Node) (xs ys : List Node) → AreIn xs (y ∷ ys) → AllByRecursion (λ n. place_of y < place_of n) xs → AreIn xs ys
drop_head y xs ys within above n h = elim (member_of n y ys (within n h)) [
  | inl is ↦ absurd (omega (arith, all_has (λ m. place_of y < place_of m) xs above n h, ap place_of is))
  | inr later ↦ later
]

heads : (x y : Node) (xs ys : List Node) → AscendByPlace (x ∷ xs) → AscendByPlace (y ∷ ys) → AreIn (x ∷ xs) (y ∷ ys) → AreIn (y ∷ ys) (x ∷ xs) → x ≡ y
heads x y xs ys p q a b = elim (member_of x y ys (a x (has_head x xs))) [
  | inl is ↦ is
  | inr later ↦ elim (member_of y x xs (b y (has_head y ys))) [
    | inl is ↦ sym is
    | inr late ↦ absurd (omega (arith, all_has (λ m. place_of y < place_of m) ys q.0 x later, all_has (λ m. place_of x < place_of m) xs p.0 y late))
  ]
]

pub same_nodes : (xs ys : List Node) → AscendByPlace xs → AscendByPlace ys → AreIn xs ys → AreIn ys xs → xs ≡ ys
same_nodes [] [] p q a b = refl
same_nodes [] (y ∷ ys) p q a b = absurd (let clash : false ≡ true = b y (has_head y ys) in cc)
same_nodes (x ∷ xs) [] p q a b = absurd (let clash : false ≡ true = a x (has_head x xs) in cc)
same_nodes (x ∷ xs) (y ∷ ys) p q a b =
    let is : x ≡ y = heads x y xs ys p q a b in
    let above : AllByRecursion (λ n. place_of y < place_of n) xs = subst (λ (m : Node). AllByRecursion (λ n. place_of m < place_of n) xs) is p.0 in
    let below : AllByRecursion (λ n. place_of x < place_of n) ys = subst (λ (m : Node). AllByRecursion (λ n. place_of m < place_of n) ys)
    (sym is) q.0 in
    let rest : xs ≡ ys = same_nodes xs ys p.1 q.1 (drop_head y xs ys (λ n h. a n (has_tail n x xs h)) above)
    (drop_head x ys xs (λ n h. b n (has_tail n y ys h)) below) in
    λ i. is i ∷ rest i

pub fits : (ys xs : List Node) → AscendByPlace xs → AscendByPlace ys → AreIn xs ys → length xs ≤ length ys
fits [] [] p q a = omega arith
fits [] (x ∷ xs) p q a = absurd (let clash : false ≡ true = a x (has_head x xs) in cc)
fits (y ∷ ys) [] p q a = omega arith
fits (y ∷ ys) (x ∷ xs) p q a = elim (member_of x y ys (a x (has_head x xs))) [
  | inl is ↦ omega (
    arith,
    fits ys xs p.1 q.1 (drop_head y xs ys (λ n h. a n (has_tail n x xs h))
        (subst (λ (m : Node). AllByRecursion (λ n. place_of m < place_of n) xs) is p.0)),
  )
  | inr later ↦
      let above : place_of y < place_of x = all_has (λ m. place_of y < place_of m) ys q.0 x later in
      omega (arith, fits ys (x ∷ xs) p q.1 (drop_head y (x ∷ xs) ys a (above, All-weaker _ _ xs (λ n h. omega (arith, h, above)) p.0)))
]

-- ---- parts of such a list

ascends-append : (xs ys : List Node) → AscendByPlace xs → AscendByPlace ys → AllByRecursion (λ x. AllByRecursion (λ y. place_of x < place_of y) ys) xs
    → AscendByPlace (xs ++ ys)
ascends-append [] ys p q b = q
ascends-append (x ∷ xs) ys p q b = (all-append (λ y. place_of x < place_of y) xs ys p.0 b.0, ascends-append xs ys p.1 q b.1)

pub ascends_before : (xs : List Node) (n : Node) (ys : List Node) → AscendByPlace (xs ++ n ∷ ys) → AllByRecursion (λ x. place_of x < place_of n) xs
ascends_before [] n ys p = tt
ascends_before (x ∷ xs) n ys p = (all_has (λ m. place_of x < place_of m) (xs ++ n ∷ ys) p.0 n (has_behind xs), ascends_before xs n ys p.1)
  where
    has_behind : (zs : List Node) → contains_node n (zs ++ n ∷ ys) ≡ true
    has_behind [] = has_head n ys
    has_behind (z ∷ zs) = has_tail n z (zs ++ n ∷ ys) (has_behind zs)

ascends_filter : (p : Node → Bool) (xs : List Node) → AscendByPlace xs → AscendByPlace (filter p xs)
ascends_filter p [] up = tt
ascends_filter p (x ∷ xs) up = by_case (p x) (all-filter (λ n. place_of x < place_of n) p xs up.0) (ascends_filter p xs up.1)
  where
    by_case : (b : Bool) → AllByRecursion (λ n. place_of x < place_of n) (filter p xs) → AscendByPlace (filter p xs)
        → AscendByPlace (cond b (x ∷ filter p xs) (filter p xs))
    by_case true above rest = (above, rest)
    by_case false above rest = rest

keep_all : (p : Node → Bool) (xs : List Node) → AllByRecursion (λ x. p x ≡ true) xs → filter p xs ≡ xs
keep_all p [] all = refl
keep_all p (x ∷ xs) all = ap (λ b. cond b (x ∷ filter p xs) (filter p xs)) all.0 ∙ ap (λ (ys : List Node). x ∷ ys) (keep_all p xs all.1)

-- such a list without its first node
pub without_first : (n : Node) (rest : List Node) → AllByRecursion (λ m. place_of n < place_of m) rest
    → filter (λ m. not (is_same_node m n)) (n ∷ rest) ≡ rest
without_first n rest above =
    ap (λ b. cond (not b) (n ∷ filter (λ m. not (is_same_node m n)) rest) (filter (λ m. not (is_same_node m n)) rest)) (is_node-same n)
    ∙ keep_all (λ m. not (is_same_node m n)) rest
    (All-weaker _ _ rest (λ m less. ap not (false_from_ne_true (is_same_node m n) (λ e. omega (arith, less, ap place_of (is_node-true m n e)))))
    above)

-- ---- the nodes of a tree

level_at : (d k : ℕ) → AllByRecursion (λ n. (n.depth ≡ d) × (n.index < k)) (first_of_level d k)
unfolding first_of_level
level_at d zero = tt
level_at d (suc k) = all-append (λ n. (n.depth ≡ d) × (n.index < suc k)) (first_of_level d k) _
    (All-weaker _ _ (first_of_level d k) (λ n h. (h.0, omega (arith, h.1))) (level_at d k)) ((refl, omega arith), tt)

level_places : (d k : ℕ) → AllByRecursion (λ n. (nodes_above d ≤ place_of n) × (place_of n < nodes_above d + k)) (first_of_level d k)
level_places d k = All-weaker _ _ (first_of_level d k) (λ n h. (omega (arith, h.1, ap nodes_above h.0), omega (arith, h.1, ap nodes_above h.0)))
    (level_at d k)

level_ascends : (d k : ℕ) → AscendByPlace (first_of_level d k)
unfolding first_of_level
level_ascends d zero = tt
level_ascends d (suc k) = ascends-append (first_of_level d k) (record { depth = d; index = k } ∷ []) (level_ascends d k) (tt, tt)
    (All-weaker _ _ (first_of_level d k) (λ n h. (omega (arith, h.1), tt)) (level_places d k))

levels_at : (m : ℕ) → AllByRecursion (λ n. (n.depth < m) × (n.index < 16 ^ n.depth)) (nodes_above_depth m)
unfolding nodes_above_depth
levels_at zero = tt
levels_at (suc m) = all-append (λ n. (n.depth < suc m) × (n.index < 16 ^ n.depth)) (nodes_above_depth m) _
    (All-weaker _ _ (nodes_above_depth m) (λ n h. (omega (arith, h.0), h.1)) (levels_at m))
    (All-weaker _ _ (first_of_level m (16 ^ m)) (λ n h. (omega (arith, h.0), subst (λ (d : ℕ). n.index < 16 ^ d) (sym h.0) h.1))
    (level_at m (16 ^ m)))

levels_below : (m : ℕ) → AllByRecursion (λ n. place_of n < nodes_above m) (nodes_above_depth m)
levels_below m = All-weaker _ _ (nodes_above_depth m) (λ n h. omega (arith, h.1, above_below n.depth m h.0)) (levels_at m)

levels_ascend : (m : ℕ) → AscendByPlace (nodes_above_depth m)
unfolding nodes_above_depth
levels_ascend zero = tt
levels_ascend (suc m) = ascends-append (nodes_above_depth m) (first_of_level m (16 ^ m)) (levels_ascend m) (level_ascends m (16 ^ m))
    (All-weaker _ _ (nodes_above_depth m)
    (λ x below. All-weaker _ _ (first_of_level m (16 ^ m)) (λ y h. omega (arith, below, h.0)) (level_places m (16 ^ m))) (levels_below m))

pub differ_ascends : (own other : RowMap) → AscendByPlace (differ own other)
differ_ascends own other = ascends_filter _ (all_nodes own.format) (levels_ascend (suc (tree_depth own.format)))

pub differ_inside : (own other : RowMap) → AllByRecursion (λ n. (n.depth < suc (tree_depth own.format)) × (n.index < 16 ^ n.depth)) (differ own other)
differ_inside own other = all-filter _ _ (all_nodes own.format) (levels_at (suc (tree_depth own.format)))

-- a node that comes later lies as deep at least
pub as_deep : (n m : Node) → place_of n < place_of m → m.index < 16 ^ m.depth → n.depth ≤ m.depth
as_deep n m less within = elim (cases_lt m.depth n.depth) [
  | inl shallow ↦ absurd (omega (arith, less, within, above_below m.depth n.depth shallow))
  | inr deep ↦ deep
]
