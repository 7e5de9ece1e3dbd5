-- The snapshot of a range without rows, in format 1.
use Rattle.std.proofs.Common.{◌≡◌, ℕ, zero, suc, ◌+◌, ◌*◌, ◌-◌, ◌<◌, ◌≤◌, ◌^◌, Some, List, [], ◌∷◌, ◌++◌, None, length, get_or, map, replicate, refl}
use Rattle.std.proofs.Common.{sym, ap, subst, ◌∙◌, arith}
use Rattle.std.proofs.lemmas.List.{get_or-map, get_or-replicate, get_or_append_left, get_or-append_right, length-append, length-replicate}
use Rattle.std.proofs.lemmas.List.FromFn.{fill_by_all}
use Rattle.sha2.specs.Sha256.{sha256}
use Rattle.vclock.specs.declared.format.Format.TheVariants.{One}
use Rattle.hash_tree.specs.Leaves.{Bucket}
use Rattle.tree_nodes.specs.Nodes.{place_at}
use Rattle.hash_tree.specs.Texts.{leaf_text, inner_text, node_text, AreTrue}
use Rattle.hash_tree.proofs.TextLaws.{per_child_is}
use Rattle.snapshot.specs.RowMaps.{RowMap, IsRowMap, leaf_in}
use Rattle.snapshot.specs.Snapshots.{leaves_of, map_of, IsSnapshot}
use Rattle.snapshot.proofs.OrderLaws.{bucket_at, leaves_make}

-- the row map without rows
abbrev empty_map : ℕ → ℕ → RowMap
empty_map bits range = record { format = One; bits = bits; range = range; rows = [] }

-- a leaf without rows
abbrev empty_leaf : Bucket
empty_leaf = record { format = One; rows = [] }

-- the text of each node of a height
abbrev text_of : ℕ → List ℕ
text_of zero = leaf_text One []
text_of (suc height) = inner_text One (replicate 16 (sha256 (text_of height)))

-- the digests by place, if all nodes of a depth have the same
abbrev by_place : List ℕ → List ℕ → List ℕ → List (List ℕ)
by_place root inner leaf = root ∷ replicate 16 inner ++ replicate 256 leaf

-- the digests of all nodes by place
abbrev true_digests : List (List ℕ)
true_digests = by_place (sha256 (text_of 2)) (sha256 (text_of 1)) (sha256 (text_of 0))

-- All nodes of a height have the same text.
node_is : (leaf : List ℕ → ℕ) (height index : ℕ) → node_text One leaf [] height index ≡ text_of height
unfolding node_text
node_is leaf zero index = refl
node_is leaf (suc height) index =
    let d = sha256 (text_of height) in
    let each : (j : ℕ) → j < 16 → get_or (replicate 16 d) j [] ≡ sha256 (node_text One leaf [] height (16 * index + j)) =
    λ j less. get_or-replicate 16 j d [] less ∙ ap sha256 (sym (node_is leaf height (16 * index + j))) in
    sym (ap (inner_text One)
    (per_child_is (λ j. sha256 (node_text One leaf [] height (16 * index + j))) (replicate 16 d) (length-replicate 16 d) each))

-- There are 273 digests.
length-by_place : (root inner leaf : List ℕ) → length (by_place root inner leaf) ≡ 273
length-by_place root inner leaf =
    omega (arith, length-append (replicate 16 inner) (replicate 256 leaf), length-replicate 16 inner, length-replicate 256 leaf)

-- The digest of an inner node stands at its place.
at_inner : (root inner leaf : List ℕ) (index : ℕ) → index < 16 → get_or (by_place root inner leaf) (suc index) [] ≡ inner
at_inner root inner leaf index less =
    get_or_append_left (replicate 16 inner) (replicate 256 leaf) [] index (omega (arith, length-replicate 16 inner))
    ∙ get_or-replicate 16 index inner [] less

-- The digest of a leaf stands at its place.
at_leaf : (root inner leaf : List ℕ) (index : ℕ) → index < 256 → get_or (by_place root inner leaf) (suc (16 + index)) [] ≡ leaf
at_leaf root inner leaf index less =
    get_or-append_right (replicate 16 inner) (replicate 256 leaf) 16 (16 + index) [] (length-replicate 16 inner) (omega arith)
    ∙ get_or-replicate 256 (16 + index - 16) leaf [] (omega arith)

-- Each node has the digest of its text at its place.
at_place : (depth height index : ℕ) → depth + height ≡ 2 → index < 16 ^ depth
    → get_or true_digests (place_at depth index) [] ≡ sha256 (text_of height)
at_place zero height index sum within =
    let first : place_at zero index ≡ 0 = omega arith in
    let level : height ≡ 2 = omega arith in
    ap (λ (p : ℕ). get_or true_digests p []) first ∙ sym (ap (λ (h : ℕ). sha256 (text_of h)) level)
at_place (suc zero) height index sum within =
    let place : place_at (suc zero) index ≡ suc index = omega arith in
    let level : height ≡ 1 = omega arith in
    ap (λ (p : ℕ). get_or true_digests p []) place
    ∙ at_inner (sha256 (text_of 2)) (sha256 (text_of 1)) (sha256 (text_of 0)) index (omega arith) ∙ sym (ap (λ (h : ℕ). sha256 (text_of h)) level)
at_place (suc (suc zero)) height index sum within =
    let place : place_at (suc (suc zero)) index ≡ suc (16 + index) = omega arith in
    let level : height ≡ 0 = omega arith in
    ap (λ (p : ℕ). get_or true_digests p []) place
    ∙ at_leaf (sha256 (text_of 2)) (sha256 (text_of 1)) (sha256 (text_of 0)) index (omega arith) ∙ sym (ap (λ (h : ℕ). sha256 (text_of h)) level)
at_place (suc (suc (suc depth))) height index sum within = absurd (omega arith)

-- Each node stands before the end.
place_before : (depth height index : ℕ) → depth + height ≡ 2 → index < 16 ^ depth → place_at depth index < 273
place_before zero height index sum within = omega arith
place_before (suc zero) height index sum within = omega arith
place_before (suc (suc zero)) height index sum within = omega arith
place_before (suc (suc (suc depth))) height index sum within = absurd (omega arith)

-- The digests are right.
right : (leaf : List ℕ → ℕ) → AreTrue One leaf [] (map Some true_digests)
unfolding AreTrue
right leaf depth height index d sum within e =
    let place = place_at depth index in
    let before : place < length true_digests = omega
    (arith, place_before depth height index sum within, length-by_place (sha256 (text_of 2)) (sha256 (text_of 1)) (sha256 (text_of 0))) in
    let got : Some (get_or true_digests place []) ≡ Some d = sym (get_or-map (λ (x : List ℕ). Some x) true_digests place [] None before) ∙ e in
    let is : get_or true_digests place [] ≡ d = cc in
    sym is ∙ at_place depth height index sum within ∙ ap sha256 (sym (node_is leaf height index))

-- The leaves have no rows.
leaves_are : (bits range : ℕ) → replicate 256 empty_leaf ≡ leaves_of (empty_map bits range)
unfolding leaves_of
leaves_are bits range = fill_by_all (bucket_at (empty_map bits range)) (replicate 256 empty_leaf) 256 empty_leaf (length-replicate 256 empty_leaf)
    (λ j less. get_or-replicate 256 j empty_leaf empty_leaf less)

-- No rows are a row map.
empty_rows : (bits range : ℕ) → bits ≤ 8 → range < 2 ^ bits → IsRowMap (empty_map bits range)
empty_rows bits range few less = record {
  few = few;
  range = less;
  ascending = tt;
  each = tt;
  here = tt;
}

-- Leaves without rows, and the digests of the texts of the root, of 16 inner nodes and of 256 leaves.
pub record AreEmpty (leaves : List Bucket) (digests : List (List ℕ)) : Type 0 where
  pub root : List ℕ
  pub inner : List ℕ
  pub leaf : List ℕ
  pub no_rows : leaves ≡ replicate 256 (record { format = One; rows = [] })
  pub leaf_is : leaf ≡ leaf_text One []
  pub inner_is : inner ≡ inner_text One (replicate 16 (sha256 leaf))
  pub root_is : root ≡ inner_text One (replicate 16 (sha256 inner))
  pub digests_are : digests ≡ sha256 root ∷ replicate 16 (sha256 inner) ++ replicate 256 (sha256 leaf)

-- They make a snapshot.
pub empty_snapshot : (bits range : ℕ) (leaves : List Bucket) (digests : List (List ℕ)) → bits ≤ 8 → range < 2 ^ bits → AreEmpty leaves digests
    → IsSnapshot (map_of One bits range leaves) leaves digests
empty_snapshot bits range leaves digests few less of =
    let m = empty_map bits range in
    let inner_at : of.inner ≡ text_of 1 = of.inner_is ∙ ap (λ (t : List ℕ). inner_text One (replicate 16 (sha256 t))) of.leaf_is in
    let root_at : of.root ≡ text_of 2 = of.root_is ∙ ap (λ (t : List ℕ). inner_text One (replicate 16 (sha256 t))) inner_at in
    let all : digests ≡ true_digests = of.digests_are ∙ (λ i. by_place (sha256 (root_at i)) (sha256 (inner_at i)) (sha256 (of.leaf_is i))) in
    let shared : leaves ≡ leaves_of m = of.no_rows ∙ leaves_are bits range in
    let made : map_of One bits range leaves ≡ m = ap (λ (xs : List Bucket). map_of One bits range xs) shared ∙ leaves_make m tt in
    let whole : IsSnapshot m leaves digests = record {
      rows = empty_rows bits range few less;
      leaves_are = shared;
      all = ap (λ (ds : List (List ℕ)). length ds) all ∙ length-by_place (sha256 (text_of 2)) (sha256 (text_of 1)) (sha256 (text_of 0));
      right = subst (λ (ds : List (List ℕ)). AreTrue One (leaf_in m) [] (map Some ds)) (sym all) (right (leaf_in m));
    } in
    subst (λ (n : RowMap). IsSnapshot n leaves digests) (sym made) whole
