-- The pairs of C as pairs of a clock: the tests of them, and the table of the nodes that came.
use Rattle.std.proofs.Common.{◌≡◌, ℕ, ◌+◌, ◌<◌, Bool, true, false, ◌||◌, List, [], ◌∷◌, length, map, get_or, set, take, eqb, refl, ap, sym, subst}
use Rattle.std.proofs.Common.{◌∙◌, inl, inr, arith}
use Rattle.std.proofs.lemmas.Bool.{cases_Bool, cases_eq, eq-eqb, ne_eqb, eqb-true, or_cases, or_parts, or_right}
use Rattle.std.proofs.lemmas.Bool.Decides.{nat_tests}
use Rattle.std.proofs.lemmas.List.{get_or-set_same, get_or-set_other, length-map}
use Rattle.std.proofs.lemmas.Map.Steps.{length-le_from_distinct_below}
use Rattle.std.specs.List.{list_any, AllByRecursion, IsDistinct}
use Rattle.vclock.specs.Clock.{Pairs, has_node, has_repeat, is_bad, is_bad_pair}
use Rattle.vclock.proofs.BoolLaws.{or-false}
use Rattle.vclock.proofs.ClockLaws.{good_pair, has_node_more}
use Rattle.c_calls.specs.Pairs.{clock_pair, clock_pairs}
use Rattle.c_calls.specs.declared.pair.Pair.{Pair}

pub list_any-pairs : (p : ℕ × ℕ → Bool) (ps : List Pair) → list_any p (clock_pairs ps) ≡ list_any (λ x. p (clock_pair x)) ps
list_any-pairs p [] = refl
list_any-pairs p (x ∷ ps) = ap (λ b. p (clock_pair x) || b) (list_any-pairs p ps)

-- ---- more pairs than there are nodes

abbrev nodes : Pairs → List ℕ
nodes ps = map (λ p. p.0) ps

turned : (m n : ℕ) → eqb m n ≡ eqb n m
turned m n = grind (arith, nat_tests)

apart : (n : ℕ) (ps : Pairs) → has_node ps n ≡ false → AllByRecursion (λ m. eqb n m ≡ false) (nodes ps)
apart n [] e = tt
apart n (p ∷ ps) e = (turned n p.0 ∙ (or_parts _ _ e).0, apart n ps (or_parts _ _ e).1)

distinct : (ps : Pairs) → has_repeat ps ≡ false → IsDistinct eqb (nodes ps)
unfolding IsDistinct
distinct [] e = tt
distinct (p ∷ ps) e = (apart p.0 ps (or_parts _ _ e).0, distinct ps (or_parts _ _ e).1)

below : (ps : Pairs) (n : ℕ) → list_any is_bad_pair ps ≡ false → list_any (eqb n) (nodes ps) ≡ true → n < 65536
below [] n e found = absurd (cc)
below (p ∷ ps) n e found = elim (or_cases (eqb n p.0) (list_any (eqb n) (nodes ps)) found) [
  | inl here ↦ let good = good_pair p (or_parts _ _ e).0 in omega (arith, good.below, eqb-true n p.0 here)
  | inr later ↦ below ps n (or_parts _ _ e).1 later
]

-- some of them is bad, or has the node of another one
pub too_many : (ps : Pairs) → 65536 < length ps → is_bad ps ≡ true
too_many ps many = elim (cases_Bool (is_bad ps)) [
  | inl bad ↦ bad
  | inr fine ↦
      let parts = or_parts _ _ fine in
      let few = length-le_from_distinct_below (nodes ps) 65536 (distinct ps parts.1) (λ n found. below ps n parts.0 found) in
      absurd (omega (arith, many, few, length-map ps (λ (p : ℕ × ℕ). p.0)))
]

-- ---- the table

-- it says which nodes came, one pair on
pub came_more : (ps : Pairs) (seen : List Bool) (i n m : ℕ) → i < length ps → m ≡ (get_or ps i (0, 0)).0 → m < length seen
    → get_or seen n false ≡ has_node (take i ps) n → get_or (set seen m true) n false ≡ has_node (take (i + 1) ps) n
came_more ps seen i n m h is within old =
    elim (cases_eq n m) [
      | inl same ↦ subst (λ k. get_or (set seen m true) k false ≡ true) (sym same) (get_or-set_same seen m true false within)
          ∙ sym (has_node_more ps i n (0, 0) h ∙ or_right (has_node (take i ps) n) _ (eq-eqb _ n (sym is ∙ sym same)))
      | inr other ↦ get_or-set_other seen m n true false other ∙ old
          ∙ sym (has_node_more ps i n (0, 0) h
          ∙ (ap (λ b. has_node (take i ps) n || b) (ne_eqb (get_or ps i (0, 0)).0 n (λ e. other (sym (is ∙ e)))) ∙ or-false (has_node (take i ps) n)))
    ]
