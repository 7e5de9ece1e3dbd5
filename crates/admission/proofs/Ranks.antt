-- Ranks in a sorted list.
use Rattle.std.proofs.Common.{◌≡◌, ℕ, zero, suc, ◌+◌, ◌*◌, ◌<◌, ◌≤◌, Bool, true, false, ◌-◌, List, [], ◌∷◌, ◌++◌, length, map, drop, take, get_or}
use Rattle.std.proofs.Common.{cond, refl, sym, ap, ◌∙◌, arith, ⊎_elim}
use Rattle.std.proofs.lemmas.Bool.{cases_lt}
use Rattle.std.specs.Prelude.{nat_le, nat_lt, Contains, filter, slice_get, slice_index_or, Option, Some, None, min}
use Rattle.std.proofs.lemmas.Option.{slice_get_within, get_or_from_slice_get}
use Rattle.std.specs.List.Sorted.{IsPermutation, IsNonDecreasing, IsSortedByKey}
use Rattle.std.proofs.lemmas.Bool.Decides.{nat_tests}
use Rattle.std.proofs.lemmas.List.Sums.{sum_by-cons}
use Rattle.std.proofs.lemmas.List.{get_or_default, length-map, map-append, take_more}
use Rattle.std.proofs.lemmas.List.Elements.{filter-append}
use Rattle.circular_buffer.specs.Buffer.{keep_last}
use Rattle.std.specs.Ordering.{nat_cmp}
use Rattle.admission.specs.declared.latency.Sample.{Sample}
use Rattle.std.proofs.lemmas.List.Sorted.{IsNonDecreasingBy-from_sort, sum_by-IsPermutation, Contains-permutation, IsPermutation-sym}
use Rattle.admission.specs.Admission.{count_up_to, IsPercentile, window_of, least, lesser, percentile, pairs}

abbrev one_if : Bool → ℕ
one_if b = cond b 1 0

at_most-cons : (v y : ℕ) (ys : List ℕ) → count_up_to v (y ∷ ys) ≡ one_if (nat_le y v) + count_up_to v ys
at_most-cons v y ys = sum_by-cons (λ x. cond (nat_le x v) 1 0) y ys

one_of : (b : Bool) → one_if b ≤ 1
one_of true = omega arith
one_of false = omega arith

counts : (y v : ℕ) → y ≤ v → one_if (nat_le y v) ≡ 1
counts y v le = grind (arith, nat_tests)

counts_not : (y v : ℕ) → v < y → one_if (nat_le y v) ≡ 0
counts_not y v lt = grind (arith, nat_tests)

-- all up to place k are at most v
pub ranked : (ys : List ℕ) (k v : ℕ) → ((j : ℕ) → j ≤ k → j < length ys → get_or ys j 0 ≤ v) → k < length ys → k + 1 ≤ count_up_to v ys
ranked [] k v below lt = absurd (omega arith)
ranked (y ∷ ys) zero v below lt =
    let h : y ≤ v = below 0 (omega arith) (omega arith) in
    omega (arith, at_most-cons v y ys, counts y v h)
ranked (y ∷ ys) (suc k) v below lt =
    let h : y ≤ v = below 0 (omega arith) (omega arith) in
    let r = ranked ys k v (λ j le lj. below (suc j) (omega arith) (omega arith)) (omega arith) in
    omega (arith, at_most-cons v y ys, counts y v h, r)

-- all from place k on are greater than w
pub few : (ys : List ℕ) (k w : ℕ) → ((j : ℕ) → k ≤ j → j < length ys → w < get_or ys j 0) → count_up_to w ys ≤ k
few [] k w above = omega arith
few (y ∷ ys) zero w above =
    let h : w < y = above 0 (omega arith) (omega arith) in
    let r = few ys 0 w (λ j le lj. above (suc j) (omega arith) (omega arith)) in
    omega (arith, at_most-cons w y ys, counts_not y w h, r)
few (y ∷ ys) (suc k) w above =
    let r = few ys k w (λ j le lj. above (suc j) (omega arith) (omega arith)) in
    omega (arith, at_most-cons w y ys, one_of (nat_le y w), r)

-- a number with enough at most it isn't below the element of the rank
least_of : (ys : List ℕ) (k w n : ℕ) → IsNonDecreasing ys → k < length ys → 99 * n ≤ 100 * count_up_to w ys → 100 * k < 99 * n → get_or ys k 0 ≤ w
least_of ys k w n sorted lt some least =
    ⊎_elim
    (λ (below : w < get_or ys k 0).
    let f = few ys k w (λ j le lj. let up = sorted k j 0 le lj in omega (arith, up, below)) in
    absurd (omega (arith, f, some, least)))
    (λ (ge : get_or ys k 0 ≤ w). ge)
    (cases_lt w (get_or ys k 0))

-- the element of this rank in the sorted list
pub p99_at : (xs ys : List ℕ) (k : ℕ) → IsPermutation xs ys → length ys ≡ length xs → IsNonDecreasing ys
    → k < length ys → 99 * length ys ≤ 100 * (k + 1) → 100 * k < 99 * length ys → IsPercentile xs (get_or ys k 0)
p99_at xs ys k moved len sorted lt enough least =
    let v = get_or ys k 0 in
    let count : (w : ℕ) → count_up_to w ys ≡ count_up_to w xs = λ w. sum_by-IsPermutation (λ (x : ℕ). cond (nat_le x w) 1 0) xs ys moved in
    let here : Contains ys v = (k, lt, get_or_default ys k v 0 lt) in
    let r = ranked ys k v (λ j le lj. sorted j k 0 le lt) lt in
    record {
      there = Contains-permutation ys xs v (IsPermutation-sym xs ys moved) here;
      enough = omega (arith, r, count v, len, enough);
      least = λ w there some. least_of ys k w (length xs) sorted lt (omega (arith, count w, some)) (omega (arith, least, len));
    }

-- the same from what a sort ensures
pub percentile_at : (xs ys : List ℕ) (k : ℕ) → IsPermutation xs ys → length ys ≡ length xs → IsSortedByKey (λ n. n) nat_cmp ys
    → k < length ys → 99 * length ys ≤ 100 * (k + 1) → 100 * k < 99 * length ys → IsPercentile xs (get_or ys k 0)
percentile_at xs ys k moved len sorted lt enough least = p99_at xs ys k moved len (IsNonDecreasingBy-from_sort (λ n. n) ys sorted) lt enough least

map-drop : {A B : Type 0} (f : A → B) (n : ℕ) (xs : List A) → map f (drop n xs) ≡ drop n (map f xs)
map-drop f zero xs = refl
map-drop f (suc n) [] = refl
map-drop f (suc n) (x ∷ xs) = map-drop f n xs

-- the samples that are kept, as pairs
pub pairs_keep : (n : ℕ) (xs : List Sample) (s : Sample) → pairs (keep_last n (xs ++ s ∷ [])) ≡ keep_last n (pairs xs ++ (s.moment, s.micros) ∷ [])
pairs_keep n xs s =
    let f : Sample → ℕ × ℕ = λ s. (s.moment, s.micros) in
    let all : map f (xs ++ s ∷ []) ≡ map f xs ++ (s.moment, s.micros) ∷ [] = map-append f xs (s ∷ []) in
    map-drop f (length (xs ++ s ∷ []) - n) (xs ++ s ∷ [])
    ∙ (λ i. drop (sym (length-map (xs ++ s ∷ []) f) i - n) (map f (xs ++ s ∷ [])))
    ∙ ap (keep_last n) all

pub window_append : (now : ℕ) (xs ys : List Sample) → window_of now (pairs (xs ++ ys)) ≡ window_of now (pairs xs) ++ window_of now (pairs ys)
window_append now xs ys =
    let f : Sample → ℕ × ℕ = λ s. (s.moment, s.micros) in
    let p : ℕ × ℕ → Bool = λ s. nat_lt now (s.0 + 60000) in
    let m : ℕ × ℕ → ℕ = λ s. s.1 in
    ap (λ l. map m (filter p l)) (map-append f xs ys)
    ∙ ap (map m) (filter-append p (map f xs) (map f ys))
    ∙ map-append m (filter p (map f xs)) (filter p (map f ys))

pub window_more : (now : ℕ) (xs : List Sample) (i : ℕ) (s : Sample) → slice_get xs i ≡ Some s
    → window_of now (pairs (take (i + 1) xs)) ≡ window_of now (pairs (take i xs)) ++ window_of now (pairs (s ∷ []))
window_more now xs i s there =
    let lt = slice_get_within xs i s there in
    let at = get_or_from_slice_get xs i s s there in
    ap (λ l. window_of now (pairs l)) (take_more xs i s lt ∙ ap (λ y. take i xs ++ y ∷ []) at)
    ∙ window_append now (take i xs) (s ∷ [])

low_step : (o : Option ℕ) (v x : ℕ) → v ≤ x → lesser v o ≡ v → min v (lesser x o) ≡ v
low_step None v x le low = omega arith
low_step (Some m) v x le low = omega arith

-- a number from which on all are that pass is the lesser beside the least of these
low : (p : ℕ → Bool) (xs : List ℕ) (v : ℕ) → ((w : ℕ) → Contains xs w → p w ≡ true → v ≤ w) → lesser v (least (filter p xs)) ≡ v
unfolding least
low p [] v bound = refl
low p (x ∷ xs) v bound =
    let rest : lesser v (least (filter p xs)) ≡ v = low p xs v (λ w there pass. bound w (suc there.0, omega (arith, there.1), there.2) pass) in
    let cases : (b : Bool) → p x ≡ b → lesser v (least (cond b (x ∷ filter p xs) (filter p xs))) ≡ v =
    λ b. elim b as (λ b. p x ≡ b → lesser v (least (cond b (x ∷ filter p xs) (filter p xs))) ≡ v) [
      | true ↦ λ e. low_step (least (filter p xs)) v x (bound x (0, omega arith, refl) e) rest
      | false ↦ λ e. rest
    ] in
    cases (p x) refl

-- the least of those that pass
least_kept : (p : ℕ → Bool) (xs : List ℕ) (v k : ℕ) → k < length xs → slice_index_or xs k v ≡ v → p v ≡ true
    → ((w : ℕ) → Contains xs w → p w ≡ true → v ≤ w) → least (filter p xs) ≡ Some v
unfolding least
least_kept p [] v k lt at pass bound = absurd (omega (arith, lt))
least_kept p (x ∷ xs) v zero lt at pass bound =
    let rest : lesser v (least (filter p xs)) ≡ v = low p xs v (λ w there pass. bound w (suc there.0, omega (arith, there.1), there.2) pass) in
    let here : p x ≡ true = rw at pass in
    rw (here, at, rest) refl
least_kept p (x ∷ xs) v (suc k) lt at pass bound =
    let rest : least (filter p xs) ≡ Some v = least_kept p xs v k (omega (arith, lt)) at pass
    (λ w there pass. bound w (suc there.0, omega (arith, there.1), there.2) pass) in
    let cases : (b : Bool) → p x ≡ b → least (cond b (x ∷ filter p xs) (filter p xs)) ≡ Some v =
    λ b. elim b as (λ b. p x ≡ b → least (cond b (x ∷ filter p xs) (filter p xs)) ≡ Some v) [
      | true ↦ λ e. let le : v ≤ x = bound x (0, omega arith, refl) e in
          let m : min x v ≡ v = omega (arith, le) in
          rw (rest, m) refl
      | false ↦ λ e. rest
    ] in
    cases (p x) refl

pub percentile_none : (xs : List ℕ) → length xs ≡ 0 → percentile xs ≡ None
unfolding percentile least
percentile_none [] e = refl
percentile_none (x ∷ xs) e = absurd (omega (arith, e))

pub percentile_is : (xs : List ℕ) (v : ℕ) → IsPercentile xs v → percentile xs ≡ Some v
unfolding percentile
percentile_is xs v is =
    least_kept (λ v. nat_le (99 * length xs) (100 * count_up_to v xs)) xs v is.there.0 is.there.1 is.there.2 (grind (arith, nat_tests, is.enough))
    (λ w there pass. is.least w there (grind (arith, nat_tests, pass)))

pub length_pairs : (xs : List Sample) → length (pairs xs) ≡ length xs
length_pairs xs = length-map xs (λ (s : Sample). (s.moment, s.micros))
