-- The numbers of sessions.
use Rattle.std.proofs.Common.{◌≡◌, ◌≢◌, ℕ, zero, suc, ◌+◌, ◌<◌, ◌≤◌, Bool, List, [], ◌∷◌, ◌++◌, length, map, set, get_or, refl, sym, ap, subst, ◌∙◌}
use Rattle.std.proofs.Common.{arith, inl, inr}
use Rattle.std.specs.Prelude.{Result, Ok, Err}
use Rattle.std.specs.Result.{result_unwrap_or}
use Rattle.std.specs.List.Sorted.{IsSearchInRange, IsBinarySearchResult, IsNonDecreasingBy}
use Rattle.std.specs.Ordering.{nat_cmp, ordering_index}
use Rattle.std.proofs.lemmas.Cmp.{ranked}
use Rattle.std.proofs.lemmas.Bool.Decides.{nat_tests}
use Rattle.std.specs.List.{AllByRecursion, filter}
use Rattle.std.proofs.lemmas.Bool.{eq-eqb, ne_eqb, cases_lt}
use Rattle.version_set.specs.Order.{Pairwise}
use Rattle.version_set.proofs.ListLaws.{all-push, all-filter, Pairwise-filter}
use Rattle.sync_session.proofs.StepLaws.{All-weaker}
use Rattle.range_state.specs.declared.«record».Record.{Record}
use Rattle.range_state.specs.Records.{AreNumbered, place_of}

abbrev pub Below : Record → Record → Type 0
Below r s = r.number < s.number

-- ---- records in another state of things

pub numbered_none : (next : ℕ) → AreNumbered next []
numbered_none next = record { ascending = tt; below = tt }

ascending_push : (rs : List Record) (r : Record) → Pairwise Below rs → AllByRecursion (λ (x : Record). x.number < r.number) rs
    → Pairwise Below (rs ++ r ∷ [])
ascending_push [] r pairs below = (tt, tt)
ascending_push (x ∷ rs) r pairs below = (all-push (Below x) rs r pairs.0 below.0, ascending_push rs r pairs.1 below.1)

-- one record more, of the next number
pub numbered_push : (next : ℕ) (rs : List Record) (r : Record) → AreNumbered next rs → r.number ≡ next → AreNumbered (next + 1) (rs ++ r ∷ [])
numbered_push next rs r are is = record {
  ascending = ascending_push rs r are.ascending (All-weaker _ _ rs (λ x less. omega (arith, less, is)) are.below);
  below = all-push (λ (x : Record). x.number < next + 1) rs r (All-weaker _ _ rs (λ x less. omega (arith, less)) are.below) (omega (arith, is));
}

-- what is said of the numbers of records stays so, where one is replaced by another of its number
all_numbers_set : (P : ℕ → Type 0) (rs : List Record) (i : ℕ) (r new : Record) → AllByRecursion (λ (x : Record). P x.number) rs → r ≡ get_or rs i r
    → new.number ≡ r.number → AllByRecursion (λ (x : Record). P x.number) (set rs i new)
all_numbers_set P [] i r new all was same = tt
all_numbers_set P (x ∷ rs) zero r new all was same = (subst P (sym (same ∙ ap (λ (y : Record). y.number) was)) all.0, all.1)
all_numbers_set P (x ∷ rs) (suc i) r new all was same = (all.0, all_numbers_set P rs i r new all.1 was same)

ascending_set : (rs : List Record) (i : ℕ) (r new : Record) → Pairwise Below rs → r ≡ get_or rs i r → new.number ≡ r.number
    → Pairwise Below (set rs i new)
ascending_set [] i r new pairs was same = tt
ascending_set (x ∷ rs) zero r new pairs was same =
    (All-weaker _ _ rs (λ y less. omega (arith, less, same ∙ ap (λ (z : Record). z.number) was)) pairs.0, pairs.1)
ascending_set (x ∷ rs) (suc i) r new pairs was same =
    (all_numbers_set (λ n. x.number < n) rs i r new pairs.0 was same, ascending_set rs i r new pairs.1 was same)

pub numbered_set : (next : ℕ) (rs : List Record) (i : ℕ) (r new : Record) → AreNumbered next rs → r ≡ get_or rs i r → new.number ≡ r.number
    → AreNumbered next (set rs i new)
numbered_set next rs i r new are was same = record {
  ascending = ascending_set rs i r new are.ascending was same;
  below = all_numbers_set (λ n. n < next) rs i r new are.below was same;
}

-- all records are changed, but not their numbers
all_numbers_map : (P : ℕ → Type 0) (f : Record → Record) → ((r : Record) → (f r).number ≡ r.number) → (rs : List Record)
    → AllByRecursion (λ (x : Record). P x.number) rs → AllByRecursion (λ (x : Record). P x.number) (map f rs)
all_numbers_map P f same [] all = tt
all_numbers_map P f same (r ∷ rs) all = (subst P (sym (same r)) all.0, all_numbers_map P f same rs all.1)

ascending_map : (f : Record → Record) → ((r : Record) → (f r).number ≡ r.number) → (rs : List Record) → Pairwise Below rs → Pairwise Below (map f rs)
ascending_map f same [] pairs = tt
ascending_map f same (r ∷ rs) pairs = (
  all_numbers_map (λ n. (f r).number < n) f same rs (All-weaker _ _ rs (λ x less. omega (arith, less, same r)) pairs.0),
  ascending_map f same rs pairs.1,
)

pub numbered_map : (next : ℕ) (f : Record → Record) → ((r : Record) → (f r).number ≡ r.number) → (rs : List Record) → AreNumbered next rs
    → AreNumbered next (map f rs)
numbered_map next f same rs are =
    record { ascending = ascending_map f same rs are.ascending; below = all_numbers_map (λ n. n < next) f same rs are.below }

-- some records go
pub numbered_filter : (next : ℕ) (keep : Record → Bool) (rs : List Record) → AreNumbered next rs → AreNumbered next (filter keep rs)
numbered_filter next keep rs are =
    record { ascending = Pairwise-filter Below keep rs are.ascending; below = all-filter (λ (r : Record). r.number < next) keep rs are.below }

-- ---- the place of a number

-- the first number is below each later one
first_below : (r : Record) (xs : List Record) (k : ℕ) (d : Record) → AllByRecursion (Below r) xs → k < length xs → r.number < (get_or xs k d).number
first_below r [] k d all h = absurd (omega arith)
first_below r (x ∷ xs) zero d all h = all.0
first_below r (x ∷ xs) (suc k) d all h = first_below r xs k d all.1 (omega (arith, h))

-- the number is that of the record at a place
pub place_found : (rs : List Record) (id i : ℕ) (d : Record) → Pairwise Below rs → i < length rs → (get_or rs i d).number ≡ id → place_of id rs ≡ i
place_found [] id i d pairs within is = absurd (omega arith)
place_found (r ∷ rs) id zero d pairs within is = rw (eq-eqb r.number id is) refl
place_found (r ∷ rs) id (suc i) d pairs within is =
    let inside : i < length rs = omega (arith, within) in
    let less : r.number < id = omega (arith, first_below r rs i d pairs.0 inside, is) in
    rw (ne_eqb r.number id (λ e. omega (arith, e, less))) (ap suc (place_found rs id i d pairs.1 inside is))

-- no record has the number
pub place_missing : (rs : List Record) (id : ℕ) → AllByRecursion (λ (r : Record). r.number ≢ id) rs → place_of id rs ≡ length rs
place_missing [] id none = refl
place_missing (r ∷ rs) id none = rw (ne_eqb r.number id none.0) (ap suc (place_missing rs id none.1))

place_nowhere : (rs : List Record) (id : ℕ) → ((k : ℕ) (d : Record) → k < length rs → (get_or rs k d).number ≢ id) → place_of id rs ≡ length rs
place_nowhere [] id none = refl
place_nowhere (r ∷ rs) id none =
    rw (ne_eqb r.number id (none 0 r (omega arith))) (ap suc (place_nowhere rs id (λ k d lt. none (suc k) d (omega (arith, lt)))))

-- the numbers rise along the records
rising : (rs : List Record) → Pairwise Below rs → (i j : ℕ) (d : Record) → i ≤ j → j < length rs → (get_or rs i d).number ≤ (get_or rs j d).number
rising [] pairs i j d le lt = absurd (omega (arith, lt))
rising (r ∷ rs) pairs zero zero d le lt = omega arith
rising (r ∷ rs) pairs zero (suc j) d le lt = omega (arith, first_below r rs j d pairs.0 (omega (arith, lt)))
rising (r ∷ rs) pairs (suc i) zero d le lt = absurd (omega (arith, le))
rising (r ∷ rs) pairs (suc i) (suc j) d le lt = rising rs pairs.1 i j d (omega (arith, le)) (omega (arith, lt))

comparisons_rise : (rs : List Record) (id : ℕ) → Pairwise Below rs → IsNonDecreasingBy (λ (r : Record). ordering_index (nat_cmp r.number id)) rs
comparisons_rise rs id pairs = λ i j d le lt. let up = rising rs pairs i j d le lt in grind (arith, nat_tests, up)

-- a binary search by number ends at the place of the number, or nowhere
pub place_searched : (rs : List Record) (id : ℕ) (r : Result ℕ ℕ) → Pairwise Below rs → IsSearchInRange r (length rs)
    → IsBinarySearchResult (λ (x : Record). nat_cmp x.number id) rs r → result_unwrap_or r (length rs) ≡ place_of id rs
place_searched [] id (Ok i) pairs inside equal = absurd (omega (arith, inside))
place_searched (x ∷ rs) id (Ok i) pairs inside equal = sym (place_found (x ∷ rs) id i x pairs inside (ranked _ id _ (sym (equal x))))
place_searched rs id (Err i) pairs inside parted =
    let by = parted (comparisons_rise rs id pairs) in
    sym (place_nowhere rs id (λ k d lt is. elim (cases_lt k i) [
      | inl before ↦ let less : (get_or rs k d).number < id = ranked _ id _ (sym (by.0 k d (omega arith) before)) in omega (arith, less, is)
      | inr after ↦ let more : id < (get_or rs k d).number = ranked _ id _ (sym (by.1 k d after lt)) in omega (arith, more, is)
    ]))

-- a record in the place of another of its number changes no place
pub place_kept : (rs : List Record) (id i : ℕ) (r new : Record) → r ≡ get_or rs i r → new.number ≡ r.number
    → place_of id (set rs i new) ≡ place_of id rs
place_kept [] id i r new was same = refl
place_kept (x ∷ rs) id zero r new was same = rw (same ∙ ap (λ (y : Record). y.number) was) refl
place_kept (x ∷ rs) id (suc i) r new was same = rw (place_kept rs id i r new was same) refl
