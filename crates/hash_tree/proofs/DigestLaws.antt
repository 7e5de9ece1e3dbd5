-- Digests that are right for rows: what a journaled version and a digest that is set leave of them.
use Rattle.std.proofs.Common.{◌≡◌, ◌≢◌, ℕ, suc, ◌+◌, ◌*◌, ◌^◌, ◌<◌, ◌≤◌, true, is_some, Option, Some, None, List, [], length, map, replicate, set}
use Rattle.std.proofs.Common.{get_or, sym, ap, subst, ◌∙◌, arith, inl, inr, refl}
use Rattle.std.proofs.lemmas.Bool.{both_ways, cases_eq, cases_lt, cases_Bool, cond-true, cond-false}
use Rattle.std.proofs.lemmas.List.{get_or-set_same, get_or-set_other, get_or_past, length-set, get_or-map, length-map}
use Rattle.std.proofs.lemmas.List.Sums.{AllPass-from_list_all}
use Rattle.sha2.specs.Sha256.{sha256}
use Rattle.vclock.specs.declared.format.Format.{Format}
use Rattle.row_bytes.specs.declared.row.Row.{Row}
use Rattle.tree_nodes.specs.Nodes.{tree_depth, node_count, place_at, kept_digest, children_of, are_clean, ancestor_of, is_on_path, dirtied}
use Rattle.tree_nodes.proofs.PlaceLaws.{Digests, same_place, place_within, child_place, child_within, ancestor_on_path}
use Rattle.tree_nodes.proofs.TreeLaws.{no_digest, some_none, dirtied-at, child_at, sixteen_children, fresh-at}
use Rattle.hash_tree.specs.Leaves.{rows_in_leaf}
use Rattle.hash_tree.specs.Texts.{node_text, node_digest, inner_text, AreTrue}
use Rattle.hash_tree.proofs.TextLaws.{text_apart, per_child_is, inner_node}

some_is : (x y : List ℕ) → Some x ≡ Some y → x ≡ y
some_is x y e = cc

-- No digests are right for any rows.
pub true_fresh : (format : Format) (leaf : List ℕ → ℕ) (rows : List Row) (n : ℕ) → AreTrue format leaf rows (replicate n None)
unfolding AreTrue
true_fresh format leaf rows n depth height index d sum within e = absurd (some_none d (sym (fresh-at n (place_at depth index)) ∙ e))

-- ---- digests that are right

-- The rows of one leaf changed, and the path of that leaf was made dirty.
pub true_apart : (format : Format) (leaf : List ℕ → ℕ) (rows others : List Row) (there : ℕ) (digests : Digests)
    → ((i : ℕ) → i ≢ there → rows_in_leaf leaf i others ≡ rows_in_leaf leaf i rows) → AreTrue format leaf rows digests
    → there < 16 ^ tree_depth format
    → AreTrue format leaf others (dirtied format there digests)
unfolding AreTrue
true_apart format leaf rows others there digests same right at depth height index d sum within e =
    let place = place_at depth index in
    elim (cases_Bool (is_on_path format there place)) [
      | inl on ↦ absurd (some_none d
          (sym (dirtied-at format there place digests ∙ cond-true (is_on_path format there place) no_digest (kept_digest digests place) on) ∙ e))
      | inr off ↦
          let old : kept_digest digests place ≡ Some d = sym
          (dirtied-at format there place digests ∙ cond-false (is_on_path format there place) no_digest (kept_digest digests place) off) ∙ e in
          let apart : index ≢ ancestor_of height there = λ e. both_ways (is_on_path format there place) off
          (subst (λ (i : ℕ). is_on_path format there (place_at depth i) ≡ true) (sym e)
          (ancestor_on_path height depth (tree_depth format) there sum at)) in
          right depth height index d sum within old ∙ sym (ap sha256 (text_apart format leaf rows others there same height index apart))
    ]

-- a digest that is read where it was written
written : (digests : Digests) (place : ℕ) (a d : List ℕ) → kept_digest (set digests place (Some a)) place ≡ Some d → a ≡ d
written digests place a d e = elim (cases_lt place (length digests)) [
  | inl within ↦ some_is a d (sym (get_or-set_same digests place (Some a) None within) ∙ e)
  | inr past ↦
      let long : length (set digests place (Some a)) ≤ place = simp length-set past in
      absurd (some_none d (sym (get_or_past (set digests place (Some a)) place None long) ∙ e))
]

-- The digest of a node's text was set.
pub true_set : (format : Format) (leaf : List ℕ → ℕ) (rows : List Row) (digests : Digests) (depth height index : ℕ) (text : List ℕ)
    → AreTrue format leaf rows digests → depth + height ≡ tree_depth format → index < 16 ^ depth
    → text ≡ node_text format leaf rows height index → AreTrue format leaf rows (set digests (place_at depth index) (Some (sha256 text)))
unfolding AreTrue
true_set format leaf rows digests depth height index text right sum within now other k at d other_sum here e =
    let place = place_at depth index in
    elim (cases_eq (place_at other at) place) [
      | inl same ↦
          let node = same_place other at depth index here within same in
          let level : k ≡ height = omega (arith, node.0) in
          let is : sha256 text ≡ d = written digests place (sha256 text) d
          (subst (λ (q : ℕ). kept_digest (set digests place (Some (sha256 text))) q ≡ Some d) same e) in
          sym is ∙ ap sha256 (now ∙ sym (λ i. node_text format leaf rows (level i) (node.1 i)))
      | inr apart ↦ right other k at d other_sum here (sym (get_or-set_other digests place (place_at other at) (Some (sha256 text)) None apart) ∙ e)
    ]

-- The digests of clean children are those of the node's text.
pub children_text : (format : Format) (leaf : List ℕ → ℕ) (rows : List Row) (digests : Digests) (depth height index : ℕ) (ds : List (List ℕ))
    → AreTrue format leaf rows digests → length digests ≡ node_count format
    → depth + suc height ≡ tree_depth format → index < 16 ^ depth → children_of digests (place_at depth index) ≡ map Some ds
    → inner_text format ds ≡ node_text format leaf rows (suc height) index
unfolding AreTrue
children_text format leaf rows digests depth height index ds right all sum within are =
    let place = place_at depth index in
    let sixteen = sixteen_children format digests depth index (omega arith) within all in
    let long : length ds ≡ 16 = sym (length-map ds (λ (d : List ℕ). Some d)) ∙ sym (ap (λ (xs : Digests). length xs) are) ∙ sixteen in
    let child : (j : ℕ) → j < 16 → kept_digest digests (place_at (suc depth) (16 * index + j)) ≡ Some (get_or ds j []) =
    λ j less. ap (λ (p : ℕ). kept_digest digests p) (child_place depth index j) ∙ sym (child_at digests place j less)
    ∙ ap (λ (xs : Digests). get_or xs j None) are ∙ get_or-map (λ (d : List ℕ). Some d) ds j [] None (omega arith) in
    let each : (j : ℕ) → j < 16 → get_or ds j [] ≡ node_digest format leaf rows height (16 * index + j) =
    λ j less. right (suc depth) height (16 * index + j) (get_or ds j []) (omega arith) (child_within depth index j within less) (child j less) in
    ap (inner_text format) (per_child_is (λ j. node_digest format leaf rows height (16 * index + j)) ds long each)
    ∙ sym (inner_node format leaf rows height index)

-- Right digests of a clean tree are those of the nodes' texts.
pub clean_all : (format : Format) (leaf : List ℕ → ℕ) (rows : List Row) (digests : Digests) → AreTrue format leaf rows digests
    → length digests ≡ node_count format → are_clean digests ≡ true
    → (depth height index : ℕ) → depth + height ≡ tree_depth format → index < 16 ^ depth
    → kept_digest digests (place_at depth index) ≡ Some (node_digest format leaf rows height index)
unfolding AreTrue
clean_all format leaf rows digests right all clean depth height index sum within =
    let place = place_at depth index in
    let inside : place < length digests = omega (arith, place_within format depth index (omega arith) within) in
    read (kept_digest digests place) (node_digest format leaf rows height index) (AllPass-from_list_all is_some digests clean place None inside)
    (λ d e. right depth height index d sum within e)
  where
    read : (o : Option (List ℕ)) (x : List ℕ) → is_some o ≡ true → ((d : List ℕ) → o ≡ Some d → d ≡ x) → o ≡ Some x
    read None x e h = absurd (cc)
    read (Some d) x e h = ap (λ (y : List ℕ). Some y) (h d refl)
