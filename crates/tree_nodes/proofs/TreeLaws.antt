-- Digests of a tree: what a path made dirty and a digest that is set leave of them.
use Rattle.std.proofs.Common.{◌≡◌, ℕ, suc, ◌+◌, ◌*◌, ◌^◌, ◌<◌, ◌≤◌, true, cond, is_some, Option, Some, None, List, [], length, take, drop, replicate}
use Rattle.std.proofs.Common.{set, get_or, refl, sym, ap, subst, ◌∙◌, arith, inl, inr}
use Rattle.std.proofs.lemmas.Bool.{both_ways, cond_both, cases_eq, cases_lt, cases_Bool, cond-true, cond-false}
use Rattle.std.proofs.lemmas.List.{get_or-set_same, get_or-set_other, get_or_past, get_or-replicate, get_or-take, get_or-drop, length-set}
use Rattle.std.proofs.lemmas.List.{length-take, length-drop, length-replicate, drop_all}
use Rattle.std.proofs.lemmas.List.FromFn.{get_or-map-range_with_len, length-map-range_with_len}
use Rattle.std.proofs.lemmas.List.Sums.{AllPass-from_list_all}
use Rattle.vclock.specs.declared.format.Format.{Format}
use Rattle.tree_nodes.specs.Nodes.{tree_depth, nodes_above, node_count, place_at, kept_digest, children_of, are_clean, AreCleanBelow, IsTree}
use Rattle.tree_nodes.specs.Nodes.{is_on_path, dirtied}
use Rattle.tree_nodes.proofs.PlaceLaws.{Digests, node_count_is, place_within, child_place, child_within, on_path_up}

abbrev pub no_digest : Option (List ℕ)
no_digest = None

pub some_none : (d : List ℕ) → no_digest ≡ Some d → ⊥
some_none d e = cc

pub none_some : (o : Option (List ℕ)) → o ≡ None → is_some o ≡ true → ⊥
none_some o e h = cc

-- ---- digests with a path made dirty

-- As many digests stand there.
pub length-dirtied : (format : Format) (leaf : ℕ) (digests : Digests) → length (dirtied format leaf digests) ≡ length digests
unfolding dirtied
length-dirtied format leaf digests =
    length-map-range_with_len (λ (place : ℕ). cond (is_on_path format leaf place) no_digest (kept_digest digests place)) 0 (length digests)

dirtied_within : (format : Format) (leaf place : ℕ) (digests : Digests) → place < length digests
    → kept_digest (dirtied format leaf digests) place ≡ cond (is_on_path format leaf place) None (kept_digest digests place)
unfolding dirtied
dirtied_within format leaf place digests within =
    get_or-map-range_with_len (λ (p : ℕ). cond (is_on_path format leaf p) no_digest (kept_digest digests p)) 0
    (length digests) place place None within (omega arith)

-- What stands at a place.
pub dirtied-at : (format : Format) (leaf place : ℕ) (digests : Digests)
    → kept_digest (dirtied format leaf digests) place ≡ cond (is_on_path format leaf place) None (kept_digest digests place)
dirtied-at format leaf place digests = elim (cases_lt place (length digests)) [
  | inl within ↦ dirtied_within format leaf place digests within
  | inr past ↦
      let long : length (dirtied format leaf digests) ≤ place = omega (arith, length-dirtied format leaf digests) in
      get_or_past (dirtied format leaf digests) place None long
      ∙ sym (cond_both (is_on_path format leaf place) no_digest (kept_digest digests place) (λ (o : Option (List ℕ)). o ≡ None) (λ on. refl)
      (λ off. get_or_past digests place None past))
]

-- The children of a clean node are clean after a leaf's path was made dirty.
pub clean_dirtied : (format : Format) (leaf : ℕ) (digests : Digests) → leaf < 16 ^ tree_depth format → AreCleanBelow digests
    → AreCleanBelow (dirtied format leaf digests)
unfolding AreCleanBelow
clean_dirtied format leaf digests within clean place j less behind none =
    let child = 16 * place + 1 + j in
    elim (cases_Bool (is_on_path format leaf place)) [
      | inl on ↦ dirtied-at format leaf place digests ∙ cond-true (is_on_path format leaf place) no_digest (kept_digest digests place) on
      | inr off ↦ elim (cases_Bool (is_on_path format leaf child)) [
        | inl on ↦ absurd (both_ways (is_on_path format leaf place) off (on_path_up (tree_depth format) leaf place j within less on))
        | inr child_off ↦
            let old : kept_digest digests child ≡ None = sym
            (dirtied-at format leaf child digests ∙ cond-false (is_on_path format leaf child) no_digest (kept_digest digests child) child_off)
            ∙ none in
            dirtied-at format leaf place digests ∙ cond-false (is_on_path format leaf place) no_digest (kept_digest digests place) off
            ∙ clean place j less (omega (arith, length-dirtied format leaf digests)) old
      ]
    ]

-- ---- children

-- The child of a place, among the place's children.
pub child_at : (digests : Digests) (place j : ℕ) → j < 16 → get_or (children_of digests place) j None ≡ kept_digest digests (16 * place + 1 + j)
child_at digests place j less = get_or-take 16 (drop (16 * place + 1) digests) j None less ∙ get_or-drop (16 * place + 1) digests j None

-- A leaf has no children.
pub leaf_children : (format : Format) (digests : Digests) (depth index : ℕ) → depth ≡ tree_depth format → length digests ≡ node_count format
    → children_of digests (place_at depth index) ≡ []
leaf_children format digests depth index leaf all =
    let place = place_at depth index in
    let first : length digests ≤ 16 * place + 1 = omega (arith, node_count_is format, ap (λ (d : ℕ). nodes_above d) leaf) in
    ap (λ (rest : Digests). take 16 rest) (drop_all (16 * place + 1) digests first)

-- A node that is no leaf has 16 children.
pub sixteen_children : (format : Format) (digests : Digests) (depth index : ℕ) → depth < tree_depth format → index < 16 ^ depth
    → length digests ≡ node_count format → length (children_of digests (place_at depth index)) ≡ 16
sixteen_children format digests depth index inner within all =
    let place = place_at depth index in
    let last : 16 * place + 16 < length digests = omega (
      arith,
      child_place depth index 15,
      place_within format (suc depth) (16 * index + 15) (omega arith)
          (child_within depth index 15 within (omega arith)),
    ) in
    omega (arith, length-take 16 (drop (16 * place + 1) digests), length-drop (16 * place + 1) digests)

-- A child among clean ones is clean.
pub clean_child : (digests : Digests) (place j : ℕ) → are_clean (children_of digests place) ≡ true → j < 16 → 16 * place + 1 + j < length digests
    → is_some (kept_digest digests (16 * place + 1 + j)) ≡ true
clean_child digests place j clean less within =
    let behind : j < length (children_of digests place) = omega
    (arith, length-take 16 (drop (16 * place + 1) digests), length-drop (16 * place + 1) digests) in
    subst (λ (o : Option (List ℕ)). is_some o ≡ true) (child_at digests place j less)
    (AllPass-from_list_all is_some (children_of digests place) clean j None behind)

-- The children of a clean node are clean after a digest was set, where the node's own were.
pub clean_set : (digests : Digests) (place : ℕ) (d : List ℕ) → place < length digests → are_clean (children_of digests place) ≡ true
    → AreCleanBelow digests → AreCleanBelow (set digests place (Some d))
unfolding AreCleanBelow
clean_set digests place d within children clean p j less behind none =
    let child = 16 * p + 1 + j in
    elim (cases_eq child place) [
      | inl here ↦
          let got : kept_digest (set digests place (Some d)) child ≡ Some d = rw here (get_or-set_same digests place (Some d) None within) in
          absurd (some_none d (sym none ∙ got))
      | inr elsewhere ↦
          let old : kept_digest digests child ≡ None = sym (get_or-set_other digests place child (Some d) None elsewhere) ∙ none in
          let inside : child < length digests = omega (arith, length-set digests place (Some d)) in
          elim (cases_eq p place) [
            | inl same ↦ absurd (none_some (kept_digest digests child) old
                (clean_child digests p j (subst (λ (q : ℕ). are_clean (children_of digests q) ≡ true) (sym same) children) less inside))
            | inr other ↦ get_or-set_other digests place p (Some d) None other ∙ clean p j less inside old
          ]
    ]

-- A tree is one after a leaf's path was made dirty.
pub tree_dirtied : (format : Format) (leaf : ℕ) (digests : Digests) → leaf < 16 ^ tree_depth format
    → IsTree (record { format = format; digests = digests }) → IsTree (record { format = format; digests = dirtied format leaf digests })
tree_dirtied format leaf digests within tree = record {
  all = length-dirtied format leaf digests ∙ tree.all;
  below = clean_dirtied format leaf digests within tree.below;
}

-- A tree is one after a digest was set whose node's children are clean.
pub tree_set : (format : Format) (place : ℕ) (d : List ℕ) (digests : Digests) → place < node_count format
    → are_clean (children_of digests place) ≡ true → IsTree (record { format = format; digests = digests })
    → IsTree (record { format = format; digests = set digests place (Some d) })
tree_set format place d digests within children tree = record {
  all = length-set digests place (Some d) ∙ tree.all;
  below = clean_set digests place d (omega (arith, tree.all)) children tree.below;
}

-- ---- a tree whose nodes are all dirty

pub fresh-at : (n place : ℕ) → kept_digest (replicate n None) place ≡ None
fresh-at n place = elim (cases_lt place n) [
  | inl within ↦ get_or-replicate n place no_digest None within
  | inr past ↦ get_or_past (replicate n no_digest) place None (omega (arith, length-replicate n no_digest))
]

-- A tree whose nodes are all dirty is a tree.
pub tree_fresh : (format : Format) → IsTree (record { format = format; digests = replicate (node_count format) None })
unfolding AreCleanBelow
tree_fresh format = record {
  all = length-replicate (node_count format) no_digest;
  below = λ place j less behind none. fresh-at (node_count format) place;
}
