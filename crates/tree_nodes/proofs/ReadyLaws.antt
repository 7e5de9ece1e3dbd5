-- Which nodes can be hashed, and what the digests of a clean tree are.
use Rattle.std.proofs.Common.{◌≡◌, ℕ, zero, suc, ◌+◌, ◌*◌, ◌-◌, ◌/◌, ◌%◌, ◌<◌, ◌≤◌, Bool, ◌&&◌, true, false, cond, is_some, is_none, Option, Some}
use Rattle.std.proofs.Common.{None, List, [], ◌∷◌, length, drop, refl, sym, ap, subst, ◌∙◌, arith, inl, inr}
use Rattle.std.specs.List.{filter, range_with_len}
use Rattle.std.proofs.lemmas.Bool.{both_ways, cases_eq, cases_lt, cases_Bool, cond-true, cond-false, and_from, and_parts}
use Rattle.std.proofs.lemmas.List.{get_or_default, length-take, length-drop}
use Rattle.std.proofs.lemmas.List.Sums.{list_all-from_AllPass}
use Rattle.tree_nodes.specs.Nodes.{kept_digest, children_of, are_clean, is_ready, ready_from, AreCleanBelow}
use Rattle.tree_nodes.proofs.PlaceLaws.{Digests}
use Rattle.tree_nodes.proofs.TreeLaws.{child_at, none_some}

-- ---- the numbers of a range that pass a test

cons_nil : (x : ℕ) (xs : List ℕ) → x ∷ xs ≡ [] → ⊥
cons_nil x xs e = cc

first_is : (x y : ℕ) (xs ys : List ℕ) → x ∷ xs ≡ y ∷ ys → x ≡ y
first_is x y xs ys e = cc

none_passes : (p : ℕ → Bool) (n from : ℕ) → filter p (range_with_len from n) ≡ [] → (k : ℕ) → from ≤ k → k < from + n → p k ≡ false
none_passes p zero from e k least most = absurd (omega arith)
none_passes p (suc n) from e k least most =
    let rest = filter p (range_with_len (from + 1) n) in
    elim (cases_Bool (p from)) [
      | inl passes ↦ absurd (cons_nil from rest (sym (cond-true (p from) (from ∷ rest) rest passes) ∙ e))
      | inr fails ↦ elim (cases_eq k from) [
        | inl same ↦ subst (λ (x : ℕ). p x ≡ false) (sym same) fails
        | inr other ↦ none_passes p n (from + 1) (sym (cond-false (p from) (from ∷ rest) rest fails) ∙ e) k (omega arith) (omega arith)
      ]
    ]

first_passes : (p : ℕ → Bool) (n from x : ℕ) (xs : List ℕ) → filter p (range_with_len from n) ≡ x ∷ xs → (p x ≡ true) × (from ≤ x) × (x < from + n)
first_passes p zero from x xs e = absurd (cons_nil x xs (sym e))
first_passes p (suc n) from x xs e =
    let rest = filter p (range_with_len (from + 1) n) in
    elim (cases_Bool (p from)) [
      | inl passes ↦
          let same : from ≡ x = first_is from x rest xs (sym (cond-true (p from) (from ∷ rest) rest passes) ∙ e) in
          (subst (λ (k : ℕ). p k ≡ true) same passes, omega arith, omega arith)
      | inr fails ↦
          let later = first_passes p n (from + 1) x xs (sym (cond-false (p from) (from ∷ rest) rest fails) ∙ e) in
          (later.0, omega arith, omega arith)
    ]

few_pass : (p : ℕ → Bool) (n from : ℕ) → length (filter p (range_with_len from n)) ≤ n
few_pass p zero from = omega arith
few_pass p (suc n) from =
    let rest = filter p (range_with_len (from + 1) n) in
    elim (cases_Bool (p from)) [
      | inl passes ↦ omega (arith, few_pass p n (from + 1), ap (λ (xs : List ℕ). length xs) (cond-true (p from) (from ∷ rest) rest passes))
      | inr fails ↦ omega (arith, few_pass p n (from + 1), ap (λ (xs : List ℕ). length xs) (cond-false (p from) (from ∷ rest) rest fails))
    ]

-- ---- nodes that can be hashed

-- There are no more than nodes.
pub ready_few : (digests : Digests) → length (ready_from digests 0) ≤ length digests
ready_few digests = omega (arith, few_pass (is_ready digests) (length digests - 0) 0)

-- The first place of those from a place on, and the others.
pub ready_step : (digests : Digests) (place : ℕ) → place < length digests
    → ready_from digests place ≡ cond (is_ready digests place) (place ∷ ready_from digests (place + 1)) (ready_from digests (place + 1))
ready_step digests place within =
    let more : length digests - place ≡ suc (length digests - (place + 1)) = omega arith in
    ap (λ (n : ℕ). filter (is_ready digests) (range_with_len place n)) more

-- The first place is that of a node that can be hashed.
pub ready_here : (digests : Digests) (place : ℕ) → place < length digests → is_ready digests place ≡ true
    → ready_from digests place ≡ place ∷ ready_from digests (place + 1)
ready_here digests place within ready = ready_step digests place within
    ∙ cond-true (is_ready digests place) (place ∷ ready_from digests (place + 1)) (ready_from digests (place + 1)) ready

-- Nothing is left past the end.
pub ready_past : (digests : Digests) (from : ℕ) → length digests ≤ from → ready_from digests from ≡ []
ready_past digests from past =
    let none : length digests - from ≡ 0 = omega arith in
    ap (λ (n : ℕ). filter (is_ready digests) (range_with_len from n)) none

-- A node that can't be hashed is passed.
pub ready_pass : (digests : Digests) (place : ℕ) → place < length digests → is_ready digests place ≡ false
    → ready_from digests place ≡ ready_from digests (place + 1)
ready_pass digests place within not = ready_step digests place within
    ∙ cond-false (is_ready digests place) (place ∷ ready_from digests (place + 1)) (ready_from digests (place + 1)) not

-- a clean node can't be hashed
clean_not_ready : (o : Option (List ℕ)) (b : Bool) → is_some o ≡ true → (is_none o && b) ≡ false
clean_not_ready None b clean = absurd (cc)
clean_not_ready (Some d) b clean = refl

-- A dirty node with clean children can be hashed.
pub can_be_hashed : (digests : Digests) (place : ℕ) → is_some (kept_digest digests place) ≡ false → are_clean (children_of digests place) ≡ true
    → is_ready digests place ≡ true
can_be_hashed digests place dirty clean =
    and_from (is_none (kept_digest digests place)) (are_clean (children_of digests place)) (none (kept_digest digests place) dirty) clean
  where
    none : (o : Option (List ℕ)) → is_some o ≡ false → is_none o ≡ true
    none None e = refl
    none (Some d) e = absurd (cc)

-- A node with a dirty child can't.
pub dirty_child : (digests : Digests) (place : ℕ) → are_clean (children_of digests place) ≡ false → is_ready digests place ≡ false
dirty_child digests place dirty = either (is_none (kept_digest digests place)) (are_clean (children_of digests place)) dirty
  where
    either : (a b : Bool) → b ≡ false → (a && b) ≡ false
    either true b e = e
    either false b e = refl

-- from the one that was found on, the nodes that can be hashed
abbrev pub ready_at : Digests → Option ℕ → List ℕ
ready_at digests None = []
ready_at digests (Some place) = place ∷ ready_from digests (place + 1)

-- Clean nodes are passed.
pub ready_skip : (digests : Digests) (n place : ℕ)
    → ((k : ℕ) → place ≤ k → k < place + n → k < length digests → is_some (kept_digest digests k) ≡ true)
    → ready_from digests place ≡ ready_from digests (place + n)
ready_skip digests zero place clean =
    let same : place ≡ place + 0 = omega arith in
    ap (ready_from digests) same
ready_skip digests (suc n) place clean = elim (cases_lt place (length digests)) [
  | inr past ↦ ready_past digests place past ∙ sym (ready_past digests (place + suc n) (omega arith))
  | inl within ↦
      let not = clean_not_ready (kept_digest digests place) (are_clean (children_of digests place))
      (clean place (omega arith) (omega arith) within) in
      let same : place + 1 + n ≡ place + suc n = omega arith in
      ready_pass digests place within not ∙ ready_skip digests n (place + 1) (λ k least most inside. clean k (omega arith) (omega arith) inside)
      ∙ ap (ready_from digests) same
]

-- The child of a clean node is clean.
pub child_clean : (digests : Digests) (place j : ℕ) → AreCleanBelow digests → j < 16 → 16 * place + 1 + j < length digests
    → is_some (kept_digest digests place) ≡ true → is_some (kept_digest digests (16 * place + 1 + j)) ≡ true
unfolding AreCleanBelow
child_clean digests place j below less within clean =
    some (kept_digest digests (16 * place + 1 + j)) (λ dirty. none_some (kept_digest digests place) (below place j less within dirty) clean)
  where
    some : (o : Option (List ℕ)) → (o ≡ None → ⊥) → is_some o ≡ true
    some None h = absurd (h refl)
    some (Some d) h = refl

-- The children of clean nodes in a row are clean nodes in a row.
pub children_clean : (digests : Digests) (first past : ℕ) → AreCleanBelow digests
    → ((k : ℕ) → first ≤ k → k < past → k < length digests → is_some (kept_digest digests k) ≡ true)
    → (k : ℕ) → 16 * first + 1 ≤ k → k < 16 * past + 1 → k < length digests → is_some (kept_digest digests k) ≡ true
children_clean digests first past below clean zero least most within = absurd (omega arith)
children_clean digests first past below clean (suc k) least most within =
    let is : 16 * (k / 16) + 1 + k % 16 ≡ suc k = omega arith in
    subst (λ (i : ℕ). is_some (kept_digest digests i) ≡ true) is
    (child_clean digests (k / 16) (k % 16) below (omega arith) (omega arith) (clean (k / 16) (omega arith) (omega arith) (omega arith)))

-- The first of the nodes that can be hashed can be hashed.
pub ready_is : (digests : Digests) (from place : ℕ) (rest : List ℕ) → ready_from digests from ≡ place ∷ rest
    → (is_ready digests place ≡ true) × (from ≤ place) × (place < length digests)
ready_is digests from place rest e =
    let first = first_passes (is_ready digests) (length digests - from) from place rest e in
    (first.0, first.1, omega arith)

-- A node that can be hashed is dirty, and its children are clean.
pub ready_parts : (digests : Digests) (place : ℕ) → is_ready digests place ≡ true
    → (kept_digest digests place ≡ None) × (are_clean (children_of digests place) ≡ true)
ready_parts digests place ready =
    let parts = and_parts (is_none (kept_digest digests place)) (are_clean (children_of digests place)) ready in
    (none (kept_digest digests place) parts.0, parts.1)
  where
    none : (o : Option (List ℕ)) → is_none o ≡ true → o ≡ None
    none None e = refl
    none (Some d) e = absurd (cc)

-- where no node can be hashed, those from a place on are clean, since children stand behind their parents
clean_from : (digests : Digests) → ((k : ℕ) → k < length digests → is_ready digests k ≡ false) → (n from : ℕ) → from + n ≡ length digests → (k : ℕ)
    → from ≤ k → k < length digests → is_some (kept_digest digests k) ≡ true
clean_from digests none zero from all k least most = absurd (omega arith)
clean_from digests none (suc n) from all k least most =
    let behind = clean_from digests none n (from + 1) (omega arith) in
    elim (cases_eq k from) [
      | inr other ↦ behind k (omega arith) most
      | inl same ↦
          let children : are_clean (children_of digests from) ≡ true = list_all-from_AllPass is_some (children_of digests from) (λ j d less.
          let sixteen : j < 16 = omega (arith, length-take 16 (drop (16 * from + 1) digests)) in
          let inside : 16 * from + 1 + j < length digests = omega
          (arith, length-take 16 (drop (16 * from + 1) digests), length-drop (16 * from + 1) digests) in
          subst (λ (o : Option (List ℕ)). is_some o ≡ true)
          (sym (child_at digests from j sixteen) ∙ get_or_default (children_of digests from) j None d less)
          (behind (16 * from + 1 + j) (omega arith) inside)) in
          some (kept_digest digests k)
          (λ dirty. both_ways (is_ready digests k) (none k most)
          (and_from (is_none (kept_digest digests k)) (are_clean (children_of digests k)) dirty
          (subst (λ (q : ℕ). are_clean (children_of digests q) ≡ true) (sym same) children)))
    ]
  where
    some : (o : Option (List ℕ)) → (is_none o ≡ true → ⊥) → is_some o ≡ true
    some None h = absurd (h refl)
    some (Some d) h = refl

-- Where no node can be hashed, all are clean.
pub none_ready : (digests : Digests) → ready_from digests 0 ≡ [] → are_clean digests ≡ true
none_ready digests e =
    let none : (k : ℕ) → k < length digests
    → is_ready digests k ≡ false = λ k less. none_passes (is_ready digests) (length digests - 0) 0 e k (omega arith) (omega arith) in
    list_all-from_AllPass is_some digests
    (λ k d less. subst (λ (o : Option (List ℕ)). is_some o ≡ true) (get_or_default digests k None d less)
    (clean_from digests none (length digests) 0 (omega arith) k (omega arith) less))
