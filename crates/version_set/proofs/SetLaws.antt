-- Laws of versions and of sets of them, for any clocks.
use Rattle.std.proofs.Common.{◌≡◌, ℕ, suc, zero, ◌+◌, ◌<◌, ◌≤◌, Bool, true, false, not, ◌&&◌, ◌||◌, cond, List, [], ◌∷◌, length, filter, leb, refl}
use Rattle.std.proofs.Common.{ap, sym, subst, ◌∙◌, arith, inl, inr, ◌⊎◌, ◌↔◌, get_or}
use Rattle.std.proofs.lemmas.Bool.{and_parts, and_from, or_parts, or_cases, or_left, or_right, or_from, leb-true, le-leb, cases_Bool, not-true}
use Rattle.std.proofs.lemmas.Bool.{not_from_false, both_ways}
use Rattle.std.specs.List.{list_any, AllByRecursion}
use Rattle.std.specs.declared.cmp.Ordering.{Ordering}
use Rattle.std.specs.declared.cmp.Ordering.TheVariants.{Less, Equal, Greater}
use Rattle.std.specs.Ordering.{is_eq, ordering_then, nat_cmp}
use Rattle.std.specs.FinMap.{slice_cmp-IsAntisymmetric, nat_cmp-IsAntisymmetric}
use Rattle.std.specs.Cmp.{IsTotalOrder}
use Rattle.std.proofs.lemmas.Cmp.{then_total, on_total, lists_total, nat_cmp_total, nat_list_cmp_total, tied_itself}
use Rattle.vclock.specs.Clock.{Pairs, counter, at_most, IsClock}
use Rattle.std.proofs.lemmas.List.Folds.{Any-from_list_any, list_any-from_Any}
use Rattle.vclock.proofs.ClockLaws.{at_most-counters, at_most-is, at_most_itself, same_clock}
use Rattle.vclock.proofs.BoolLaws.{or-false}
use Rattle.version_set.specs.Kind.{kind_byte}
use Rattle.version_set.specs.declared.kind.Kind.{Kind}
use Rattle.version_set.specs.declared.kind.Kind.TheVariants.{Live, Tombstone}
use Rattle.version_set.specs.declared.version.Version.{Version}
use Rattle.version_set.specs.Order.{place_by}
use Rattle.version_set.specs.Version.{NoneIsBelow, is_below, covered, maximal, with_version, IsBelow, IsCovered, is_same, version_cmp, pair_cmp}
use Rattle.version_set.specs.Version.{Ascends, offered, IsVersionSet, set_from}
use Rattle.version_set.proofs.ListLaws.{all-filter, all-inserted, less_all, Pairwise-filter, ascends-inserted}

-- the order of texts is total
pub version_total : IsTotalOrder version_cmp
version_total = then_total
    (then_total (then_total (then_total (on_total (λ v. kind_byte v.kind) nat_cmp_total) (on_total (λ v. length v.clock) nat_cmp_total))
    (on_total (λ v. v.clock) (lists_total (then_total (on_total (λ p. p.0) nat_cmp_total) (on_total (λ p. p.1) nat_cmp_total)))))
    (on_total (λ v. length v.value) nat_cmp_total)) (on_total (λ v. v.value) nat_list_cmp_total)

at_most-trans : (a b c : Pairs) → at_most a b ≡ true → at_most b c ≡ true → at_most a c ≡ true
at_most-trans [] b c p q = refl
at_most-trans ((m, k) ∷ a) b c p q =
    let parts = and_parts (leb k (counter b m)) (at_most a b) p in
    let step : k ≤ counter c m = omega (arith, leb-true k (counter b m) parts.0, at_most-counters b c q m) in
    and_from _ _ (le-leb k (counter c m) step) (at_most-trans a b c parts.1 q)

pub is_below-trans : (u v w : Version) → is_below u v ≡ true → is_below v w ≡ true → is_below u w ≡ true
is_below-trans u v w p q =
    let up = and_parts (at_most u.clock v.clock) (not (at_most v.clock u.clock)) p in
    let on = and_parts (at_most v.clock w.clock) (not (at_most w.clock v.clock)) q in
    let back : at_most w.clock u.clock ≡ false = elim (cases_Bool (at_most w.clock u.clock)) [
      | inl t ↦ absurd (both_ways _ (not-true _ on.1) (at_most-trans w.clock u.clock v.clock t up.0))
      | inr f ↦ f
    ] in
    and_from _ _ (at_most-trans u.clock v.clock w.clock up.0 on.0) (not_from_false _ back)

pub is_below-itself : (v : Version) → is_below v v ≡ false
is_below-itself v = elim (at_most v.clock v.clock) as (λ t. (t && not t) ≡ false) [ true ↦ refl | false ↦ refl ]

-- x is an item of the list
pub IsIn : {X : Type 0} → X → List X → Type 0
IsIn x [] = ⊥
IsIn x (y ∷ ys) = (x ≡ y) ⊎ IsIn x ys

found : {X : Type 0} (p : X → Bool) (xs : List X) → list_any p xs ≡ true → (x : X) × IsIn x xs × (p x ≡ true)
unfolding IsIn
found p [] e = absurd (both_ways _ refl e)
found p (x ∷ xs) e = elim (cases_Bool (p x)) [
  | inl t ↦ (x, inl refl, t)
  | inr f ↦ let rest = found p xs (rw f at e) in (rest.0, inr rest.1, rest.2)
]

any_at : {X : Type 0} (p : X → Bool) (xs : List X) (x : X) → IsIn x xs → p x ≡ true → list_any p xs ≡ true
unfolding IsIn
any_at p [] x i t = absurd i
any_at p (y ∷ ys) x i t = elim i [
  | inl e ↦ or_left (p y) (list_any p ys) (subst (λ z. p z ≡ true) e t)
  | inr j ↦ or_right (p y) (list_any p ys) (any_at p ys x j t)
]

in_filter : {X : Type 0} (p : X → Bool) (xs : List X) (x : X) → IsIn x xs → p x ≡ true → IsIn x (filter p xs)
unfolding IsIn
in_filter p [] x i t = absurd i
in_filter p (y ∷ ys) x i t = elim i [
  | inl e ↦ rw (subst (λ z. p z ≡ true) e t) (inl e)
  | inr j ↦ elim (p y) as (λ b. IsIn x (cond b (y ∷ filter p ys) (filter p ys))) [ true ↦ inr (in_filter p ys x j t) | false ↦ in_filter p ys x j t ]
]

from_filter : {X : Type 0} (p : X → Bool) (xs : List X) (x : X) → IsIn x (filter p xs) → IsIn x xs × (p x ≡ true)
unfolding IsIn
from_filter p [] x i = absurd i
from_filter p (y ∷ ys) x i =
    elim (p y) as (λ b. p y ≡ b → IsIn x (cond b (y ∷ filter p ys) (filter p ys)) → IsIn x (y ∷ ys) × (p x ≡ true)) [
      | true ↦ λ t j. elim j [
        | inl e ↦ (inl e, subst (λ z. p z ≡ true) (sym e) t)
        | inr k ↦ let r = from_filter p ys x k in (inr r.0, r.1)
      ]
      | false ↦ λ t j. let r = from_filter p ys x j in (inr r.0, r.1)
    ] refl i

filter_alike : {X : Type 0} (p q : X → Bool) (xs : List X) → ((x : X) → IsIn x xs → p x ≡ q x) → filter p xs ≡ filter q xs
unfolding IsIn
filter_alike p q [] h = refl
filter_alike p q (y ∷ ys) h =
    λ i. cond (h y (inl refl) i) (y ∷ filter_alike p q ys (λ x j. h x (inr j)) i) (filter_alike p q ys (λ x j. h x (inr j)) i)

filter_all : {X : Type 0} (p : X → Bool) (xs : List X) → ((x : X) → IsIn x xs → p x ≡ true) → filter p xs ≡ xs
unfolding IsIn
filter_all p [] h = refl
filter_all p (y ∷ ys) h = rw (h y (inl refl)) (ap (λ t. y ∷ t) (filter_all p ys (λ x j. h x (inr j))))

abbrev count : {X : Type 0} → (X → Bool) → List X → ℕ
count p [] = 0
count p (x ∷ xs) = cond (p x) (suc (count p xs)) (count p xs)

count_le : {X : Type 0} (p q : X → Bool) → ((x : X) → p x ≡ true → q x ≡ true) → (xs : List X) → count p xs ≤ count q xs
count_le p q h [] = omega arith
count_le p q h (x ∷ xs) =
    elim (p x) as (λ b. p x ≡ b → cond b (suc (count p xs)) (count p xs) ≤ cond (q x) (suc (count q xs)) (count q xs)) [
      | true ↦ λ t. rw (h x t) (omega (arith, count_le p q h xs))
      | false ↦ λ t. elim (q x) as
          (λ b. count p xs ≤ cond b (suc (count q xs)) (count q xs)) [ true ↦ omega (arith, count_le p q h xs) | false ↦ count_le p q h xs ]
    ] refl

count_lt : {X : Type 0} (p q : X → Bool) → ((x : X) → p x ≡ true → q x ≡ true) → (xs : List X) (w : X) → IsIn w xs → q w ≡ true → p w ≡ false
    → count p xs < count q xs
unfolding IsIn
count_lt p q h [] w i t f = absurd i
count_lt p q h (x ∷ xs) w i t f = elim i [
  | inl e ↦ rw (subst (λ z. q z ≡ true) e t, subst (λ z. p z ≡ false) e f) (omega (arith, count_le p q h xs))
  | inr j ↦
      elim (p x) as (λ b. p x ≡ b → cond b (suc (count p xs)) (count p xs) < cond (q x) (suc (count q xs)) (count q xs)) [
        | true ↦ λ a. rw (h x a) (omega (arith, count_lt p q h xs w j t f))
        | false ↦ λ a. elim (q x) as
            (λ b. count p xs < cond b (suc (count q xs)) (count q xs)) [
              | true ↦ omega
                  (arith, count_lt p q h xs w j t f)
              | false ↦ count_lt p q h xs w j t f
            ]
      ] refl
]

-- a version below a member is below a maximal member
below_maximal : (n : ℕ) (S : List Version) (v : Version) → count (is_below v) S < n → list_any (is_below v) S ≡ true
    → list_any (is_below v) (maximal S) ≡ true
below_maximal zero S v h e = absurd (omega arith)
below_maximal (suc n) S v h e =
    let w = found (is_below v) S e in
    elim (cases_Bool (list_any (is_below w.0) S)) [
      | inr f ↦ any_at (is_below v) (maximal S) w.0 (in_filter (λ x. not (list_any (is_below x) S)) S w.0 w.1 (not_from_false _ f)) w.2
      | inl t ↦
          let fewer : count (is_below w.0) S < count (is_below v) S = count_lt (is_below w.0) (is_below v)
          (λ x. is_below-trans v w.0 x w.2) S w.0 w.1 w.2 (is_below-itself w.0) in
          let m = found (is_below w.0) (maximal S) (below_maximal n S w.0 (omega arith) t) in
          any_at (is_below v) (maximal S) m.0 m.1 (is_below-trans v w.0 m.0 w.2 m.2)
    ]

-- the two Bools are true together
same_truth : (a b : Bool) → (a ≡ true → b ≡ true) → (b ≡ true → a ≡ true) → a ≡ b
same_truth true b f g = sym (f refl)
same_truth false true f g = g refl
same_truth false false f g = refl

pub below-maximal : (S : List Version) (v : Version) → list_any (is_below v) (maximal S) ≡ list_any (is_below v) S
below-maximal S v = same_truth _ _
    (λ e. let m = found (is_below v) (maximal S) e in any_at (is_below v) S m.0 (from_filter (λ x. not (list_any (is_below x) S)) S m.0 m.1).0 m.2)
    (λ e. below_maximal (suc (count (is_below v) S)) S v (omega arith) e)

-- a set of maximal members is its own maximum
pub maximal-maximal : (S : List Version) → maximal (maximal S) ≡ maximal S
maximal-maximal S = filter_all (λ v. not (list_any (is_below v) (maximal S))) (maximal S) (λ v i.
    ap not (below-maximal S v) ∙ (from_filter (λ x. not (list_any (is_below x) S)) S v i).1)

-- no member of a set that is its own maximum is below a member
pub none_below : (S : List Version) → maximal S ≡ S → (v : Version) → IsIn v S → list_any (is_below v) S ≡ false
none_below S own v i = not-true _ (from_filter (λ x. not (list_any (is_below x) S)) S v (subst (λ T. IsIn v T) (sym own) i)).1

-- what a test finds in the set with one more version
pub any-with_version : (p : Version → Bool) (v : Version) (S : List Version) → list_any (is_same v) S ≡ false
    → list_any p (with_version v S) ≡ (p v || list_any p S)
any-with_version p v [] h = refl
any-with_version p v (w ∷ S) h =
    elim (version_cmp v w) as
    (λ o. version_cmp v w ≡ o → list_any p (place_by o (v ∷ w ∷ S) (w ∷ S) (w ∷ with_version v S)) ≡ (p v || (p w || list_any p S))) [
      | Less ↦ λ o. refl
      | Equal ↦ λ o. absurd (both_ways (is_same v w) (or_parts _ _ h).0 (ap is_eq o))
      | Greater ↦ λ o. ap (λ b. p w || b) (any-with_version p v S (or_parts _ _ h).1) ∙ or_swap (p w) (p v) (list_any p S)
    ] refl
  where
    or_swap : (a b c : Bool) → (a || (b || c)) ≡ (b || (a || c))
    or_swap true true c = refl
    or_swap true false c = refl
    or_swap false b c = refl

-- a version that is less than each member stands first
with_version-first : (v : Version) (S : List Version) → AllByRecursion (λ w. version_cmp v w ≡ Less) S → with_version v S ≡ v ∷ S
with_version-first v [] h = refl
with_version-first v (w ∷ S) h = rw h.0 refl

pub filter-with_version : (p : Version → Bool) (v : Version) (S : List Version) → Ascends S → list_any (is_same v) S ≡ false
    → filter p (with_version v S) ≡ cond (p v) (with_version v (filter p S)) (filter p S)
filter-with_version p v [] a h = refl
filter-with_version p v (w ∷ S) a h =
    elim (version_cmp v w) as
    (λ o. version_cmp v w ≡ o → filter p (place_by o (v ∷ w ∷ S) (w ∷ S) (w ∷ with_version v S)) ≡ cond (p v) (with_version v (filter p (w ∷ S)))
    (filter p (w ∷ S))) [
      | Less ↦ λ o. ap (λ t. cond (p v) t (filter p (w ∷ S)))
          (sym (with_version-first v (filter p (w ∷ S)) (all-filter _ p (w ∷ S) (o, less_all version_cmp version_total v w S o a.0))))
      | Equal ↦ λ o. absurd (both_ways (is_same v w) (or_parts _ _ h).0 (ap is_eq o))
      | Greater ↦ λ o.
          let rest = filter-with_version p v S a.1 (or_parts _ _ h).1 in
          elim (p w) as (λ b. cond b (w ∷ filter p (with_version v S)) (filter p (with_version v S)) ≡ cond (p v)
          (with_version v (cond b (w ∷ filter p S) (filter p S))) (cond b (w ∷ filter p S) (filter p S))) [
            | true ↦ ap (λ t. w ∷ t) rest
                ∙ elim (p v) as (λ c. w ∷ cond c (with_version v (filter p S)) (filter p S) ≡ cond c (with_version v (w ∷ filter p S))
                (w ∷ filter p S)) [ true ↦ rw o refl | false ↦ refl ]
            | false ↦ rest
          ]
    ] refl

pub length-with_version : (v : Version) (S : List Version) → length (with_version v S) ≤ length S + 1
length-with_version v [] = omega arith
length-with_version v (w ∷ S) =
    elim (version_cmp v w) as
    (λ o. length (place_by o (v ∷ w ∷ S) (w ∷ S) (w ∷ with_version v S)) ≤ length (w ∷ S) + 1)
    [ Less ↦ omega arith | Equal ↦ omega arith | Greater ↦ omega (arith, length-with_version v S) ]

-- a version that is not covered: those that are not below it, and it
pub maximal-with_version : (v : Version) (S : List Version) → Ascends S → maximal S ≡ S → covered v S ≡ false
    → maximal (with_version v S) ≡ with_version v (filter (λ w. not (is_below w v)) S)
maximal-with_version v S a own h =
    let new : list_any (is_same v) S ≡ false = no_part (is_same v) (is_below v) S h in
    let free : list_any (is_below v) S ≡ false = no_part_2 (is_same v) (is_below v) S h in
    let stays : not (list_any (is_below v) (with_version v S)) ≡ true = ap not
    (any-with_version (is_below v) v S new ∙ or_from _ _ (is_below-itself v) free) in
    filter-with_version (λ x. not (list_any (is_below x) (with_version v S))) v S a new
    ∙ ap (λ b. cond b (with_version v (filter (λ x. not (list_any (is_below x) (with_version v S))) S))
    (filter (λ x. not (list_any (is_below x) (with_version v S))) S)) stays
    ∙ ap (with_version v) (filter_alike (λ x. not (list_any (is_below x) (with_version v S))) (λ w. not (is_below w v)) S (λ x i.
    ap not (any-with_version (is_below x) v S new ∙ ap (λ b. is_below x v || b) (none_below S own x i) ∙ or-false (is_below x v))))
  where
    no_part : {X : Type 0} (p q : X → Bool) (xs : List X) → list_any (λ x. p x || q x) xs ≡ false → list_any p xs ≡ false
    no_part p q [] e = refl
    no_part p q (x ∷ xs) e = or_from _ _ (or_parts _ _ (or_parts _ _ e).0).0 (no_part p q xs (or_parts _ _ e).1)

    no_part_2 : {X : Type 0} (p q : X → Bool) (xs : List X) → list_any (λ x. p x || q x) xs ≡ false → list_any q xs ≡ false
    no_part_2 p q [] e = refl
    no_part_2 p q (x ∷ xs) e = or_from _ _ (or_parts _ _ (or_parts _ _ e).0).1 (no_part_2 p q xs (or_parts _ _ e).1)

-- versions with one text are equal
pub version_exact : (v w : Version) → version_cmp v w ≡ Equal → v ≡ w
version_exact v w e =
    let abcd = both_equal _ _ e in
    let abc = both_equal _ _ abcd.0 in
    let ab = both_equal _ _ abc.0 in
    let a = both_equal _ _ ab.0 in
    let kinds : v.kind ≡ w.kind = kind_exact v.kind w.kind (nat_cmp-IsAntisymmetric (kind_byte v.kind) (kind_byte w.kind) a.0) in
    let clocks : v.clock ≡ w.clock = slice_cmp-IsAntisymmetric pair_exact v.clock w.clock ab.1 in
    let values : v.value ≡ w.value = slice_cmp-IsAntisymmetric nat_cmp-IsAntisymmetric v.value w.value abcd.1 in
    λ i. record { clock = clocks i; kind = kinds i; value = values i }
  where
    both_equal : (o p : Ordering) → ordering_then o p ≡ Equal → (o ≡ Equal) × (p ≡ Equal)
    both_equal Less p e = cc
    both_equal Equal p e = (refl, e)
    both_equal Greater p e = cc

    kind_exact : (k l : Kind) → kind_byte k ≡ kind_byte l → k ≡ l
    kind_exact Live Live e = refl
    kind_exact Live Tombstone e = absurd (omega arith)
    kind_exact Tombstone Live e = absurd (omega arith)
    kind_exact Tombstone Tombstone e = refl

    pair_exact : (p q : ℕ × ℕ) → pair_cmp p q ≡ Equal → p ≡ q
    pair_exact p q e = let r = both_equal (nat_cmp p.0 q.0) (nat_cmp p.1 q.1) e in
        λ i. (nat_cmp-IsAntisymmetric p.0 q.0 r.0 i, nat_cmp-IsAntisymmetric p.1 q.1 r.1 i)

pub is_same-exact : (v w : Version) → is_same v w ≡ true → v ≡ w
is_same-exact v w e = version_exact v w
    (elim (version_cmp v w) as (λ o. is_eq o ≡ true → o ≡ Equal) [ Less ↦ λ t. cc | Equal ↦ λ t. refl | Greater ↦ λ t. cc ] e)

-- a version of the set leaves it as it is
with_version-member : (v : Version) (S : List Version) → Ascends S → list_any (is_same v) S ≡ true → with_version v S ≡ S
with_version-member v [] a e = absurd (both_ways _ refl e)
with_version-member v (w ∷ S) a e =
    elim (version_cmp v w) as (λ o. version_cmp v w ≡ o → place_by o (v ∷ w ∷ S) (w ∷ S) (w ∷ with_version v S) ≡ w ∷ S) [
      | Less ↦ λ o. absurd (both_ways _ (no_same_above v (w ∷ S) (o, less_all version_cmp version_total v w S o a.0)) e)
      | Equal ↦ λ o. refl
      | Greater ↦ λ o. ap (λ t. w ∷ t) (with_version-member v S a.1 (rw o at e))
    ] refl
  where
    no_same_above : (v : Version) (S : List Version) → AllByRecursion (λ w. version_cmp v w ≡ Less) S → list_any (is_same v) S ≡ false
    no_same_above v [] all = refl
    no_same_above v (w ∷ S) all = rw all.0 (no_same_above v S all.1)

-- what covers a version in a set covers it in the set's maximum
pub covered-maximal : (v : Version) (S : List Version) → covered v (maximal S) ≡ covered v S
covered-maximal v S = same_truth _ _
    (λ e. let m = found (λ w. is_same v w || is_below v w) (maximal S) e in
    any_at (λ w. is_same v w || is_below v w) S m.0 (from_filter (λ x. not (list_any (is_below x) S)) S m.0 m.1).0 m.2)
    (λ e. let w = found (λ w. is_same v w || is_below v w) S e in
    elim (cases_Bool (list_any (is_below w.0) S)) [
      | inr f ↦ any_at (λ w. is_same v w || is_below v w) (maximal S) w.0
          (in_filter (λ x. not (list_any (is_below x) S)) S w.0 w.1 (not_from_false _ f)) w.2
      | inl t ↦
          let m = found (is_below w.0) (maximal S) (below-maximal S w.0 ∙ t) in
          let up : is_below v m.0 ≡ true = elim (or_cases (is_same v w.0) (is_below v w.0) w.2) [
            | inl s ↦ subst (λ x. is_below x m.0 ≡ true) (sym (is_same-exact v w.0 s)) m.2
            | inr b ↦ is_below-trans v w.0 m.0 b m.2
          ] in
          any_at (λ w. is_same v w || is_below v w) (maximal S) m.0 m.1 (or_right (is_same v m.0) (is_below v m.0) up)
    ])

-- a version below a member adds nothing
below_adds_nothing : (v : Version) (S : List Version) → Ascends S → list_any (is_same v) S ≡ false → list_any (is_below v) S ≡ true
    → maximal (with_version v S) ≡ maximal S
below_adds_nothing v S a new e =
    let w = found (is_below v) S e in
    filter-with_version (λ x. not (list_any (is_below x) (with_version v S))) v S a new
    ∙ ap (λ b. cond b (with_version v (filter (λ x. not (list_any (is_below x) (with_version v S))) S))
    (filter (λ x. not (list_any (is_below x) (with_version v S))) S))
    (ap not (any-with_version (is_below v) v S new ∙ or_right (is_below v v) _ e))
    ∙ filter_alike (λ x. not (list_any (is_below x) (with_version v S))) (λ x. not (list_any (is_below x) S)) S (λ x i.
    ap not (any-with_version (is_below x) v S new ∙ same_truth _ _
    (λ t. elim (or_cases (is_below x v) _ t) [ inl b ↦ any_at (is_below x) S w.0 w.1 (is_below-trans x v w.0 b w.2) | inr r ↦ r ])
    (λ t. or_right (is_below x v) _ t)))

filter_twice : {X : Type 0} (p q : X → Bool) (xs : List X) → filter p (filter q xs) ≡ filter (λ x. q x && p x) xs
filter_twice p q [] = refl
filter_twice p q (x ∷ xs) =
    elim (q x) as (λ b. filter p (cond b (x ∷ filter q xs) (filter q xs)) ≡ cond (b && p x) (x ∷ filter (λ x. q x && p x) xs)
    (filter (λ x. q x && p x) xs)) [
      | true ↦ ap (λ t. cond (p x) (x ∷ t) t) (filter_twice p q xs)
      | false ↦ filter_twice p q xs
    ]

not_or : (a b : Bool) → not (a || b) ≡ (not b && not a)
not_or true true = refl
not_or true false = refl
not_or false true = refl
not_or false false = refl

-- Sets of maximal members may be built one version at a time.
pub offered-maximal : (v : Version) (S : List Version) → Ascends S → offered v (maximal S) ≡ maximal (with_version v S)
offered-maximal v S a =
    elim (cases_Bool (covered v S)) [
      | inl t ↦ rw (covered-maximal v S, t) (elim (cases_Bool (list_any (is_same v) S)) [
        | inl s ↦ ap maximal (sym (with_version-member v S a s))
        | inr n ↦ sym (below_adds_nothing v S a n (below_of v S t n))
      ])
      | inr f ↦ rw (covered-maximal v S, f) (new_one v S a f)
    ]
  where
    below_of : (v : Version) (S : List Version) → covered v S ≡ true → list_any (is_same v) S ≡ false → list_any (is_below v) S ≡ true
    below_of v S t n = let w = found (λ w. is_same v w || is_below v w) S t in
        elim (or_cases (is_same v w.0) (is_below v w.0) w.2) [
          | inl s ↦ absurd (both_ways _ n (any_at (is_same v) S w.0 w.1 s))
          | inr b ↦ any_at
              (is_below v) S w.0 w.1 b
        ]

    no_part : {X : Type 0} (p q : X → Bool) (xs : List X) → list_any (λ x. p x || q x) xs ≡ false → (list_any p xs ≡ false) × (list_any q xs ≡ false)
    no_part p q [] e = (refl, refl)
    no_part p q (x ∷ xs) e =
        let first = or_parts _ _ (or_parts _ _ e).0 in
        let rest = no_part p q xs (or_parts _ _ e).1 in
        (or_from _ _ first.0 rest.0, or_from _ _ first.1 rest.1)

    new_one : (v : Version) (S : List Version) → Ascends S → covered v S ≡ false → maximal (with_version v (maximal S)) ≡ maximal (with_version v S)
    new_one v S a f =
        let own = maximal-maximal S in
        let up = Pairwise-filter (λ v w. version_cmp v w ≡ Less) (λ x. not (list_any (is_below x) S)) S a in
        let parts = no_part (is_same v) (is_below v) S f in
        let stays : not (list_any (is_below v) (with_version v S)) ≡ true = ap not
        (any-with_version (is_below v) v S parts.0 ∙ or_from _ _ (is_below-itself v) parts.1) in
        maximal-with_version v (maximal S) up own (covered-maximal v S ∙ f)
        ∙ ap (with_version v) (filter_twice (λ w. not (is_below w v)) (λ x. not (list_any (is_below x) S)) S
        ∙ filter_alike (λ x. not (list_any (is_below x) S) && not (is_below x v)) (λ x. not (list_any (is_below x) (with_version v S))) S
        (λ x i. sym (ap not (any-with_version (is_below x) v S parts.0) ∙ not_or (is_below x v) (list_any (is_below x) S))))
        ∙ sym (filter-with_version (λ x. not (list_any (is_below x) (with_version v S))) v S a parts.0
        ∙ ap (λ b. cond b (with_version v (filter (λ x. not (list_any (is_below x) (with_version v S))) S))
        (filter (λ x. not (list_any (is_below x) (with_version v S))) S)) stays)

-- the test of clocks says what their counters say
pub is_below-is : (v w : Version) → IsClock v.clock → IsClock w.clock → (is_below v w ≡ true) ↔ IsBelow v w
is_below-is v w cv cw = (
  (λ e. let parts = and_parts (at_most v.clock w.clock) (not (at_most w.clock v.clock)) e in
      record {
        at_most = at_most-counters v.clock w.clock parts.0;
        differ = λ same. both_ways _ (not-true _ parts.1) (subst (λ c. at_most c v.clock ≡ true) same (at_most_itself v.clock cv.rising));
      }),
  (λ b. and_from (at_most v.clock w.clock) _ ((at_most-is v.clock w.clock cv.rising).1 b.at_most)
      (not_from_false _ (elim (cases_Bool (at_most w.clock v.clock)) [
        | inl t ↦ absurd (b.differ (same_clock v.clock w.clock cv.rising cw.rising ((at_most-is v.clock w.clock cv.rising).1 b.at_most) t))
        | inr f ↦ f
      ]))),
)

-- what is covered, found by tests
pub covered-is : (v : Version) (S : List Version) → IsClock v.clock → AllByRecursion (λ w. IsClock w.clock) S → (covered v S ≡ true) ↔ IsCovered v S
covered-is v S cv valid = (
  (λ e. let a = Any-from_list_any (λ w. is_same v w || is_below v w) S e in
      (a.0, a.1, a.2, a.3, one_way v a.1 cv (valid_at S a.0 a.1 a.2 a.3 valid) a.4)),
  (λ a. list_any-from_Any (λ w. is_same v w || is_below v w) S (a.0, a.1, a.2, a.3, other_way v a.1 cv (valid_at S a.0 a.1 a.2 a.3 valid) a.4)),
)
  where
    one_way : (v w : Version) → IsClock v.clock → IsClock w.clock → (is_same v w || is_below v w) ≡ true → (v ≡ w) ⊎ IsBelow v w
    one_way v w cv cw e = elim
        (or_cases (is_same v w) (is_below v w) e) [ inl s ↦ inl (is_same-exact v w s) | inr b ↦ inr ((is_below-is v w cv cw).0 b) ]

    other_way : (v w : Version) → IsClock v.clock → IsClock w.clock → (v ≡ w) ⊎ IsBelow v w → (is_same v w || is_below v w) ≡ true
    other_way v w cv cw e = elim e [
      | inl s ↦ or_left (is_same v w) _
          (ap is_eq (subst (λ x. version_cmp v x ≡ Equal) s (tied_itself version_total v)))
      | inr b ↦ or_right (is_same v w) _
          ((is_below-is v w cv cw).1 b)
    ]

    valid_at : (S : List Version) (k : ℕ) (w : Version) → k < length S → get_or S k w ≡ w → AllByRecursion (λ x. IsClock x.clock) S → IsClock w.clock
    valid_at [] k w h e all = absurd (omega arith)
    valid_at (x ∷ S) zero w h e all = subst (λ y. IsClock y.clock) e all.0
    valid_at (x ∷ S) (suc k) w h e all = valid_at S k w (omega arith) e all.1

-- what `offer` makes is a set, if not too many are left
pub grown : (v : Version) (S : List Version) → IsClock v.clock → IsVersionSet S → covered v S ≡ false
    → length (filter (λ w. not (is_below w v)) S) < 64 → IsVersionSet (with_version v (filter (λ w. not (is_below w v)) S))
grown v S clock set f room =
    let is = maximal-with_version v S set.ascending set.own_maximum f in
    record {
      ascending = ascends-inserted version_cmp version_total v _ (Pairwise-filter (λ v w. version_cmp v w ≡ Less) _ S set.ascending);
      own_maximum = subst (λ T. maximal T ≡ T) is (maximal-maximal (with_version v S));
      short = omega (arith, length-with_version v (filter (λ w. not (is_below w v)) S));
      valid = all-inserted version_cmp (λ w. IsClock w.clock) v _ clock (all-filter _ _ S set.valid);
    }

-- where no member is the version, the set grows by one
pub length-new : (v : Version) (S : List Version) → list_any (is_same v) S ≡ false → length (with_version v S) ≡ length S + 1
length-new v [] h = refl
length-new v (w ∷ S) h =
    elim (version_cmp v w) as (λ o. version_cmp v w ≡ o → length (place_by o (v ∷ w ∷ S) (w ∷ S) (w ∷ with_version v S)) ≡ length (w ∷ S) + 1) [
      | Less ↦ λ o. omega arith
      | Equal ↦ λ o. absurd (both_ways (is_same v w) (or_parts _ _ h).0 (ap is_eq o))
      | Greater ↦ λ o. omega (arith, length-new v S (or_parts _ _ h).1)
    ] refl

any_filter_none : {X : Type 0} (p q : X → Bool) (xs : List X) → list_any p xs ≡ false → list_any p (filter q xs) ≡ false
any_filter_none p q [] h = refl
any_filter_none p q (x ∷ xs) h =
    elim (q x) as (λ b. list_any p (cond b (x ∷ filter q xs) (filter q xs)) ≡ false) [
      | true ↦ or_from _ _ (or_parts _ _ h).0
          (any_filter_none p q xs (or_parts _ _ h).1)
      | false ↦ any_filter_none p q xs (or_parts _ _ h).1
    ]

any_first : {X : Type 0} (p q : X → Bool) (xs : List X) → list_any (λ x. p x || q x) xs ≡ false → list_any p xs ≡ false
any_first p q [] e = refl
any_first p q (x ∷ xs) e = or_from _ _ (or_parts _ _ (or_parts _ _ e).0).0 (any_first p q xs (or_parts _ _ e).1)

pub length-grown : (v : Version) (S : List Version) → IsVersionSet S → covered v S ≡ false
    → length (maximal (with_version v S)) ≡ length (filter (λ w. not (is_below w v)) S) + 1
length-grown v S set f =
    ap length (maximal-with_version v S set.ascending set.own_maximum f)
    ∙ length-new v (filter (λ w. not (is_below w v)) S) (any_filter_none (is_same v) _ S (any_first (is_same v) (is_below v) S f))

-- what a test finds in the set of some versions, it finds among them
any-with_one : (p : Version → Bool) (v : Version) (S : List Version) → list_any p (with_version v S) ≡ (p v || list_any p S)
any-with_one p v [] = refl
any-with_one p v (w ∷ S) =
    elim (version_cmp v w) as
    (λ o. version_cmp v w ≡ o → list_any p (place_by o (v ∷ w ∷ S) (w ∷ S) (w ∷ with_version v S)) ≡ (p v || (p w || list_any p S))) [
      | Less ↦ λ o. refl
      | Equal ↦ λ o. subst (λ x. (p w || list_any p S) ≡ (p x || (p w || list_any p S))) (sym (version_exact v w o)) (or_same (p w) (list_any p S))
      | Greater ↦ λ o. ap (λ b. p w || b) (any-with_one p v S) ∙ or_swap (p w) (p v) (list_any p S)
    ] refl
  where
    or_same : (a b : Bool) → (a || b) ≡ (a || (a || b))
    or_same true b = refl
    or_same false b = refl

    or_swap : (a b c : Bool) → (a || (b || c)) ≡ (b || (a || c))
    or_swap true true c = refl
    or_swap true false c = refl
    or_swap false b c = refl

pub any-set_from : (p : Version → Bool) (S vs : List Version) → list_any p (set_from S vs) ≡ (list_any p vs || list_any p S)
any-set_from p S [] = refl
any-set_from p S (v ∷ vs) = any-set_from p (with_version v S) vs ∙ ap (λ b. list_any p vs || b) (any-with_one p v S)
    ∙ or_turn (list_any p vs) (p v) (list_any p S)
  where
    or_turn : (a b c : Bool) → (a || (b || c)) ≡ ((b || a) || c)
    or_turn true true c = refl
    or_turn true false c = refl
    or_turn false true c = refl
    or_turn false false c = refl

not_below : (v w : Version) → IsClock v.clock → IsClock w.clock → is_below v w ≡ false → ¬ IsBelow v w
not_below v w cv cw f b = both_ways _ f ((is_below-is v w cv cw).1 b)

none_of : (v : Version) (T : List Version) → IsClock v.clock → AllByRecursion (λ w. IsClock w.clock) T → list_any (is_below v) T ≡ false
    → AllByRecursion (λ w. ¬ IsBelow v w) T
none_of v [] cv valid none = tt
none_of v (w ∷ T) cv valid none = let parts = or_parts _ _ none in (not_below v w cv valid.0 parts.0, none_of v T cv valid.1 parts.1)

clock_in : (T : List Version) (v : Version) → IsIn v T → AllByRecursion (λ w. IsClock w.clock) T → IsClock v.clock
unfolding IsIn
clock_in [] v i valid = absurd i
clock_in (w ∷ T) v i valid = elim i [ inl e ↦ subst (λ x. IsClock x.clock) (sym e) valid.0 | inr j ↦ clock_in T v j valid.1 ]

none_below_each : (S T : List Version) → IsVersionSet S → ((v : Version) → IsIn v T → IsIn v S)
    → AllByRecursion (λ v. AllByRecursion (λ w. ¬ IsBelow v w) S) T
unfolding IsIn
none_below_each S [] set sub = tt
none_below_each S (v ∷ T) set sub =
    let here = sub v (inl refl) in
    (none_of v S (clock_in S v here set.valid) set.valid (none_below S set.own_maximum v here), none_below_each S T set (λ w i. sub w (inr i)))

-- in a set that is its own maximum no member is below a member
pub none-is_below : (S : List Version) → IsVersionSet S → NoneIsBelow S
none-is_below S set = none_below_each S S set (λ v i. i)
