-- Copies of blocks of digests: what is left of them where a digest changes, and what they are of a clean tree.
use Rattle.std.proofs.Common.{◌≡◌, ℕ, zero, suc, ◌+◌, ◌*◌, ◌/◌, ◌%◌, ◌<◌, ◌≤◌, true, is_some, Option, Some, None, List, [], length, get_or, set, map}
use Rattle.std.proofs.Common.{drop, replicate, refl, sym, ap, subst, ◌∙◌, arith, inl, inr}
use Rattle.std.specs.Prelude.{MatchOption, ⊤, ◌⊎◌}
use Rattle.std.proofs.lemmas.Bool.{cases_eq, cases_lt}
use Rattle.std.proofs.lemmas.List.{get_or-set_same, get_or-set_other, get_or_past, get_or-replicate, get_or-map, get_or-drop, get_or_default}
use Rattle.std.proofs.lemmas.List.{length-set, length-map, length-take, length-drop, length-replicate, ext_get_or}
use Rattle.std.proofs.lemmas.List.Sums.{AllPass-from_list_all, list_all-from_AllPass}
use Rattle.tree_nodes.specs.Nodes.{kept_digest, children_of, are_clean, Tree, IsTree, AreCleanBelow}
use Rattle.tree_nodes.specs.Blocks.{joined, AreOf, IsCopy, AreCopies, AreMarks}
use Rattle.tree_nodes.proofs.PlaceLaws.{Digests}
use Rattle.tree_nodes.proofs.TreeLaws.{child_at}
use Rattle.tree_nodes.proofs.BlockLaws.{length-joined, joined-at}

-- by place, the digests of the children of each node that has a copy of them
abbrev pub Copies : Type 0
Copies = List (Option (List (List ℕ)))

-- what is known of the copy at a place
abbrev pub Holds : Digests → ℕ → Option (List (List ℕ)) → Type 0
Holds digests place copy = MatchOption copy ⊤ (IsCopy digests place)

-- ---- digests change

-- a copy of children that have kept their digests is one still
kept : (digests new : Digests) (place : ℕ) (copy : Option (List (List ℕ)))
    → ((j : ℕ) → j < 16 → kept_digest new (16 * place + 1 + j) ≡ kept_digest digests (16 * place + 1 + j)) → Holds digests place copy
    → Holds new place copy
kept digests new place None same h = tt
kept digests new place (Some b) same h = record { long = h.long; each = λ j less. same j less ∙ h.each j less }

-- a copy that was dropped is right of anything
dropped : (digests : Digests) (place : ℕ) (copy : Option (List (List ℕ))) → copy ≡ None → Holds digests place copy
dropped digests place None e = tt
dropped digests place (Some b) e = absurd (cc)

-- Where each copy was dropped, or is the old one of children that have kept their digests, all are right.
pub copies_kept : (digests new : Digests) (blocks now : Copies) → AreCopies digests blocks → length new ≡ length digests → length now ≡ length blocks
    → ((p : ℕ) → (get_or now p None ≡ None) ⊎
    ((get_or now p None ≡ get_or blocks p None) × ((j : ℕ) → j < 16 → kept_digest new (16 * p + 1 + j) ≡ kept_digest digests (16 * p + 1 + j))))
    → AreCopies new now
copies_kept digests new blocks now are long many each = record {
  all = omega (arith, are.all);
  each = λ p. elim (each p) [
    | inl none ↦ dropped new p (get_or now p None) none
    | inr same ↦ subst (Holds new p) (sym same.0) (kept digests new p (get_or blocks p None) same.1 (are.each p))
  ];
}

-- a digest was set, and the copy of its block dropped
pub copies_set : (digests : Digests) (blocks : Copies) (place before : ℕ) (o : Option (List ℕ)) → place ≡ suc before → before / 16 < length blocks
    → AreCopies digests blocks → AreCopies (set digests place o) (set blocks (before / 16) None)
copies_set digests blocks place before o next within are =
    copies_kept digests (set digests place o) blocks (set blocks (before / 16) none) are (length-set digests place o)
    (length-set blocks (before / 16) none)
    (λ p. elim (cases_eq p (before / 16)) [
      | inl here ↦ inl (rw here (get_or-set_same blocks (before / 16) none None within))
      | inr other ↦ inr (
        get_or-set_other blocks (before / 16) p none None other,
        λ j less. get_or-set_other digests place (16 * p + 1 + j) o None
            (λ e. other (omega (arith, e))),
      )
    ])
  where
    none : Option (List (List ℕ))
    none = None

-- the digest of the root was set
pub copies_set_root : (digests : Digests) (blocks : Copies) (place : ℕ) (o : Option (List ℕ)) → place ≡ 0 → AreCopies digests blocks
    → AreCopies (set digests place o) blocks
copies_set_root digests blocks place o root are =
    copies_kept digests (set digests place o) blocks blocks are (length-set digests place o) refl
    (λ p. inr (refl, λ j less. get_or-set_other digests place (16 * p + 1 + j) o None (λ e. omega (arith, e))))

-- ---- a tree without copies

-- No copy is right of anything.
pub copies_none : (digests : Digests) (n : ℕ) → length digests ≡ 16 * n + 1 → AreCopies digests (replicate n None)
copies_none digests n all = record {
  all = omega (arith, all, length-replicate n none);
  each = λ p. dropped digests p (get_or (replicate n none) p None) (elim (cases_lt p n) [
    | inl within ↦ get_or-replicate n p none None within
    | inr past ↦ get_or_past (replicate n none) p None (omega (arith, length-replicate n none))
  ]);
}
  where
    none : Option (List (List ℕ))
    none = None

-- ---- a clean tree

-- Blocks that are copies are the digests behind the root.
pub copies_joined : (digests : Digests) (blocks : List (List (List ℕ))) → length digests ≡ 16 * length blocks + 1
    → ((p : ℕ) → p < length blocks → IsCopy digests p (get_or blocks p [])) → AreOf 16 blocks → map Some (joined blocks) ≡ drop 1 digests
copies_joined digests blocks all each are =
    let long = length-joined 16 blocks are in
    ext_get_or None (map Some (joined blocks)) (drop 1 digests) (omega (arith, long, length-map (joined blocks) some, length-drop 1 digests))
    (λ i less.
    let within : i < length (joined blocks) = omega (arith, less, length-map (joined blocks) some) in
    let copy = each (i / 16) (omega (arith, within, long)) in
    let at : i % 16 < 16 = omega arith in
    get_or-map some (joined blocks) i [] None within
    ∙ ap some (joined-at 16 blocks (i / 16) (i % 16) i [] [] are (omega (arith, within, long)) at (omega arith))
    ∙ sym (copy.each (i % 16) at)
    ∙ ap (λ (k : ℕ). kept_digest digests k) (let same : 16 * (i / 16) + 1 + i % 16 ≡ 1 + i = omega arith in same)
    ∙ sym (get_or-drop 1 digests i None))
  where
    some : List ℕ → Option (List ℕ)
    some d = Some d

-- children among clean nodes are clean
pub clean_children : (digests : Digests) (place : ℕ) → are_clean digests ≡ true → are_clean (children_of digests place) ≡ true
clean_children digests place clean =
    list_all-from_AllPass is_some (children_of digests place) (λ j d less.
    let sixteen : j < 16 = omega (arith, length-take 16 (drop (16 * place + 1) digests)) in
    let inside : 16 * place + 1 + j < length digests = omega
    (arith, length-take 16 (drop (16 * place + 1) digests), length-drop (16 * place + 1) digests) in
    subst (λ (o : Option (List ℕ)). is_some o ≡ true)
    (sym (child_at digests place j sixteen) ∙ get_or_default (children_of digests place) j None d less)
    (AllPass-from_list_all is_some digests clean (16 * place + 1 + j) None inside))

-- What stands for sixteen children is a copy of them.
pub copy_of : (digests : Digests) (place : ℕ) (block : List (List ℕ)) → 16 * place + 17 ≤ length digests → children_of digests place ≡ map Some block
    → IsCopy digests place block
copy_of digests place block within are =
    let long : length block ≡ 16 = omega (
      arith,
      ap (λ (xs : Digests). length xs) are,
      length-map block some,
      length-take 16 (drop (16 * place + 1) digests),
      length-drop (16 * place + 1) digests,
    ) in
    record {
      long = long;
      each = λ j less. sym (child_at digests place j less) ∙ ap (λ (xs : Digests). get_or xs j None) are
          ∙ get_or-map some block j [] None (omega (arith, long));
    }
  where
    some : List ℕ → Option (List ℕ)
    some d = Some d

-- a clean root has clean nodes below it only
clean_below : (digests : Digests) → AreCleanBelow digests → (d : List ℕ) → kept_digest digests 0 ≡ Some d → (n k : ℕ) → k < n → k < length digests
    → kept_digest digests k ≡ None → ⊥
unfolding AreCleanBelow
clean_below digests below d root zero k less within dirty = absurd (omega arith)
clean_below digests below d root (suc n) zero less within dirty = cc
clean_below digests below d root (suc n) (suc k) less within dirty =
    let place : suc k ≡ 16 * (k / 16) + 1 + k % 16 = omega arith in
    clean_below digests below d root n (k / 16) (omega arith) (omega arith)
    (below (k / 16) (k % 16) (omega arith) (omega arith) (subst (λ (i : ℕ). kept_digest digests i ≡ None) place dirty))

-- All nodes are clean if the root is, since the children of a clean node are.
pub root_clean : (t : Tree) (d : List ℕ) → IsTree t → kept_digest t.digests 0 ≡ Some d → are_clean t.digests ≡ true
root_clean t d tree root =
    list_all-from_AllPass is_some t.digests
    (λ k e less. some (get_or t.digests k e)
    (λ dirty. clean_below t.digests tree.below d root (suc k) k (omega arith) less (sym (get_or_default t.digests k e None less) ∙ dirty)))
  where
    some : (o : Option (List ℕ)) → (o ≡ None → ⊥) → is_some o ≡ true
    some None h = absurd (h refl)
    some (Some x) h = refl

-- all nodes are clean where a read of the first gives a digest
pub all_clean : (t now : Tree) (clean : ℕ) (blocks : Copies) (all : Option (List (List ℕ))) (first : Option (List ℕ)) (root : List ℕ) → t ≡ now
    → AreMarks t.format t.digests clean blocks all → first ≡ get_or t.digests 0 first → first ≡ Some root → are_clean now.digests ≡ true
all_clean t now clean blocks all first root view are read is =
    let here = get_or_default t.digests 0 None first (omega (arith, are.copies.all)) ∙ sym read ∙ is in
    subst (λ (s : Tree). are_clean s.digests ≡ true) view (root_clean t root are.tree here)
