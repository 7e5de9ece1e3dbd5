-- Lemmas on clocks.
use Rattle.std.proofs.Common.{true≢false, ◌≡◌, ◌≢◌, ℕ, suc, zero, ◌+◌, ◌<◌, ◌≤◌, ◌^◌, Bool, true, false, ◌&&◌, cond, [], ◌∷◌, ◌++◌, length, get_or}
use Rattle.std.proofs.Common.{take, drop, set, eqb, leb, refl, ap, sym, subst, ◌∙◌, arith, drop-cons, add-one, ◌↔◌, inl, inr}
use Rattle.std.proofs.lemmas.Bool.{or_cases, or_left, or_right, ltb-false, lt-ltb, le-ltb, le-leb, lt-leb, leb-true, eq-eqb, ne_eqb, eqb-false}
use Rattle.std.proofs.lemmas.Bool.{eqb-true, and_left, and_parts, and_from, and_cases, or_parts, leb-false, cases_order, cases_Bool}
use Rattle.std.proofs.lemmas.Bool.Decides.{nat_tests}
use Rattle.std.proofs.Math.ListN.{drop_of_length-le}
use Rattle.std.proofs.lemmas.List.{length-drop}
use Rattle.vclock.proofs.BoolLaws.{or-false}
use Rattle.vclock.specs.Clock.{Pairs, counter, IsAtMost, at_most, Rises, IsClock, with_counter, raised, raise_fault, has_node, has_repeat}
use Rattle.vclock.specs.Clock.{is_bad_pair, clock_of, merged, merge_fault}
use Rattle.std.proofs.Common.{None, Some, ◌||◌}
use Rattle.vclock.specs.declared.refusal.Refusal.TheVariants.{ClockFull}
use Rattle.std.specs.List.{list_any, filter}
use Rattle.std.proofs.Common.{max}
use Rattle.std.proofs.Math.Nat.{le-max_left, le-max_right}
use Rattle.std.proofs.lemmas.List.{take_more, take-append-drop}
use Rattle.std.proofs.lemmas.List.Folds.{list_any-append}

pub Rises-lower : (low m : ℕ) (ps : Pairs) → low ≤ m → Rises m ps → Rises low ps
Rises-lower low m [] h r = tt
Rises-lower low m ((n, c) ∷ ps) h r = (omega arith, r.1, r.2, r.3, r.4)

pub Rises-drop : (ps : Pairs) (i low : ℕ) → Rises low ps → Rises low (drop i ps)
Rises-drop ps zero low r = r
Rises-drop [] (suc i) low r = tt
Rises-drop ((n, c) ∷ ps) (suc i) low r = Rises-drop ps i low (Rises-lower low n ps (omega arith) r.4)

-- a node that is not above low is absent
pub counter_below : (low : ℕ) (ps : Pairs) (n : ℕ) → n ≤ low → Rises low ps → counter ps n ≡ 0
counter_below low [] n h r = refl
counter_below low ((m, c) ∷ ps) n h r = rw (ne_eqb m n (omega arith)) (counter_below m ps n (omega arith) r.4)

-- a pair below all of a's nodes does not count
pub at_most-skip : (a : Pairs) (n d : ℕ) (b : Pairs) → Rises n a → at_most a ((n, d) ∷ b) ≡ at_most a b
at_most-skip [] n d b r = refl
at_most-skip ((m, c) ∷ a) n d b r =
    rw (ne_eqb n m (omega arith)) (ap (λ t. leb c (counter b m) && t) (at_most-skip a n d b (Rises-lower n m a (omega arith) r.4)))

-- the walk, at two first pairs
head_below : (m c : ℕ) (a : Pairs) (n d : ℕ) (b : Pairs) → Rises 0 ((m, c) ∷ a) → Rises 0 ((n, d) ∷ b) → m < n
    → (at_most ((m, c) ∷ a) ((n, d) ∷ b) ≡ false) × (at_most ((n, d) ∷ b) ((m, c) ∷ a) ≡ at_most ((n, d) ∷ b) a)
head_below m c a n d b ra rb h =
    let absent : counter ((n, d) ∷ b) m ≡ 0 = rw (ne_eqb n m (omega arith)) (counter_below n b m (omega arith) rb.4) in
    let no : leb c (counter ((n, d) ∷ b) m) ≡ false = rw absent (lt-leb c 0 ra.2) in
    (and_left (leb c (counter ((n, d) ∷ b) m)) (at_most a ((n, d) ∷ b)) no, at_most-skip ((n, d) ∷ b) m c a (h, rb.1, rb.2, rb.3, rb.4))

head_alike : (m c : ℕ) (a : Pairs) (n d : ℕ) (b : Pairs) → Rises 0 ((m, c) ∷ a) → m ≡ n → at_most ((m, c) ∷ a) ((n, d) ∷ b) ≡ (leb c d && at_most a b)
head_alike m c a n d b ra h = rw (eq-eqb n m (sym h)) (ap (λ t. leb c d && t) (at_most-skip a n d b (subst (λ k. Rises k a) h ra.4)))

-- the same in what is left of each list
pub left_below : (a b : Pairs) (i j : ℕ) (d : ℕ × ℕ) → Rises 0 a → Rises 0 b → i < length a → j < length b → (get_or a i d).0 < (get_or b j d).0
    → (at_most (drop i a) (drop j b) ≡ false) × (at_most (drop j b) (drop i a) ≡ at_most (drop j b) (drop (i + 1) a))
left_below a b i j d ra rb hi hj h =
    let sa = rw (drop-cons a i d hi) at (Rises-drop a i 0 ra) in
    let sb = rw (drop-cons b j d hj) at (Rises-drop b j 0 rb) in
    rw (add-one i, drop-cons a i d hi, drop-cons b j d hj) (head_below _ _ _ _ _ _ sa sb h)

pub left_alike : (a b : Pairs) (i j : ℕ) (d : ℕ × ℕ) → Rises 0 a → i < length a → j < length b → (get_or a i d).0 ≡ (get_or b j d).0
    → at_most (drop i a) (drop j b) ≡ (leb (get_or a i d).1 (get_or b j d).1 && at_most (drop (i + 1) a) (drop (j + 1) b))
left_alike a b i j d ra hi hj h =
    let sa = rw (drop-cons a i d hi) at (Rises-drop a i 0 ra) in
    rw (add-one i, add-one j, drop-cons a i d hi, drop-cons b j d hj) (head_alike _ _ _ _ _ _ sa h)

-- nothing is left of the second
nothing_right : (a : Pairs) → Rises 0 a → at_most a [] ≡ eqb 0 (length a)
nothing_right [] r = refl
nothing_right ((m, c) ∷ a) r = rw (lt-leb c 0 r.2, ne_eqb 0 (suc (length a)) (omega arith)) refl

pub left_none : (a b : Pairs) (i j : ℕ) → Rises 0 a → i ≤ length a → length b ≤ j → at_most (drop i a) (drop j b) ≡ eqb i (length a)
left_none a b i j r hi hj =
    rw (drop_of_length-le b hj) (nothing_right (drop i a) (Rises-drop a i 0 r) ∙ (grind (arith, nat_tests, length-drop i a)))

pub none_left : (a b : Pairs) (i j : ℕ) → length a ≤ i → at_most (drop i a) (drop j b) ≡ true
none_left a b i j h = rw (drop_of_length-le a h) refl

-- the test says what the counters say
pub at_most-counters : (a b : Pairs) → at_most a b ≡ true → IsAtMost a b
at_most-counters [] b e n = omega arith
at_most-counters ((m, c) ∷ a) b e n =
    let parts = and_parts (leb c (counter b m)) (at_most a b) e in
    elim (eqb m n) as (λ t. eqb m n ≡ t → cond t c (counter a n) ≤ counter b n) [
      | true ↦ λ t. subst (λ k. c ≤ counter b k) (eqb-true m n t) (leb-true c (counter b m) parts.0)
      | false ↦ λ t. at_most-counters a b parts.1 n
    ] refl

at_most_from : (low : ℕ) (a b : Pairs) → Rises low a → IsAtMost a b → at_most a b ≡ true
at_most_from low [] b r h = refl
at_most_from low ((m, c) ∷ a) b r h =
    let first : c ≤ counter b m = rw (eq-eqb m m refl) at (h m) in
    let rest : IsAtMost a b = λ n. elim (eqb m n) as (λ t. eqb m n ≡ t → counter a n ≤ counter b n) [
      | true ↦ λ t. rw (counter_below m a n (omega (arith, eqb-true m n t)) r.4) (omega arith)
      | false ↦ λ t. rw t at (h n)
    ] refl in
    and_from _ _ (le-leb c (counter b m) first) (at_most_from m a b r.4 rest)

pub at_most-is : (a b : Pairs) → Rises 0 a → (at_most a b ≡ true) ↔ IsAtMost a b
at_most-is a b r = (at_most-counters a b, at_most_from 0 a b r)

-- clocks with the same counters are equal
same_counters : (low : ℕ) (a b : Pairs) → Rises low a → Rises low b → ((n : ℕ) → counter a n ≡ counter b n) → a ≡ b
same_counters low [] [] ra rb h = refl
same_counters low [] ((n, d) ∷ b) ra rb h = absurd (omega (arith, (rw (eq-eqb n n refl) at (h n)), rb.2))
same_counters low ((m, c) ∷ a) [] ra rb h = absurd (omega (arith, (rw (eq-eqb m m refl) at (h m)), ra.2))
same_counters low ((m, c) ∷ a) ((n, d) ∷ b) ra rb h =
    let at_m : c ≡ counter ((n, d) ∷ b) m = rw (eq-eqb m m refl) at (h m) in
    let at_n : counter ((m, c) ∷ a) n ≡ d = rw (eq-eqb n n refl) at (h n) in
    elim (cases_order m n) [
      | inl e ↦
          let values : c ≡ d = at_m ∙ rw (eq-eqb n m (sym e)) refl in
          let rest : a ≡ b = same_counters m a b ra.4 (subst (λ k. Rises k b) (sym e) rb.4) (λ k.
          elim (eqb m k) as (λ t. eqb m k ≡ t → counter a k ≡ counter b k) [
            | true ↦ λ t. counter_below m a k (omega (arith, eqb-true m k t)) ra.4 ∙ sym (counter_below n b k (omega (arith, eqb-true m k t)) rb.4)
            | false ↦ λ t. let f = rw (t, ne_eqb n k (omega (arith, eqb-false m k t))) at (h k) in f
          ] refl) in
          λ i. (e i, values i) ∷ rest i
      | inr (inl less) ↦ absurd (omega (arith, at_m, rw (ne_eqb n m (omega arith)) at at_m, counter_below n b m (omega arith) rb.4, ra.2))
      | inr (inr more) ↦ absurd (omega (arith, rw (ne_eqb m n (omega arith)) at at_n, counter_below m a n (omega arith) ra.4, rb.2))
    ]

pub same_clock : (a b : Pairs) → Rises 0 a → Rises 0 b → at_most a b ≡ true → at_most b a ≡ true → a ≡ b
same_clock a b ra rb p q = same_counters 0 a b ra rb (λ n. omega (arith, at_most-counters a b p n, at_most-counters b a q n))

pub at_most_itself : (a : Pairs) → Rises 0 a → at_most a a ≡ true
at_most_itself a r = at_most_from 0 a a r (λ n. omega arith)

-- a write at the node's place
pub with_counter_set : (ps : Pairs) (i n d : ℕ) (e : ℕ × ℕ) → i < length ps → (get_or ps i e).0 ≡ n
    → take i ps ++ with_counter (drop i ps) n d ≡ set ps i (n, d)
with_counter_set [] i n d e h same = absurd (omega arith)
with_counter_set ((m, c) ∷ ps) zero n d e h same = rw (le-ltb m n (omega arith), eq-eqb m n same) refl
with_counter_set ((m, c) ∷ ps) (suc i) n d e h same = ap (λ t. (m, c) ∷ t) (with_counter_set ps i n d e (omega arith) same)

pub counter-with_counter : (ps : Pairs) (n d k : ℕ) → counter (with_counter ps n d) k ≡ cond (eqb n k) d (counter ps k)
counter-with_counter [] n d k = refl
counter-with_counter ((m, c) ∷ ps) n d k =
    elim (cases_order m n) [
      | inl e ↦ rw (le-ltb m n (omega arith), eq-eqb m n e)
          (subst (λ t. cond (eqb n k) d (counter ps k) ≡ cond (eqb n k) d (cond (eqb t k) c (counter ps k))) (sym e)
          (shadowed (eqb n k) d c (counter ps k)))
      | inr (inl less) ↦ rw (lt-ltb m n less) (ap (cond (eqb m k) c) (counter-with_counter ps n d k) ∙ apart m n k c d (counter ps k) (omega arith))
      | inr (inr more) ↦ rw (le-ltb m n (omega arith), ne_eqb m n (omega arith)) refl
    ]
  where
    shadowed : (b : Bool) (x y z : ℕ) → cond b x z ≡ cond b x (cond b y z)
    shadowed true x y z = refl
    shadowed false x y z = refl

    apart : (m n k c d r : ℕ) → m ≢ n → cond (eqb m k) c (cond (eqb n k) d r) ≡ cond (eqb n k) d (cond (eqb m k) c r)
    apart m n k c d r h = grind (arith, nat_tests)

pub Rises-with_counter : (low : ℕ) (ps : Pairs) (n d : ℕ) → Rises low ps → low < n → n < 2 ^ 16 → 0 < d → d < 2 ^ 64 → Rises low (with_counter ps n d)
Rises-with_counter low [] n d r a b c e = (a, b, c, e, tt)
Rises-with_counter low ((m, k) ∷ ps) n d r a b c e =
    elim (cases_order m n) [
      | inl same ↦ rw (le-ltb m n (omega arith), eq-eqb m n same) (a, b, c, e, subst (λ t. Rises t ps) same r.4)
      | inr (inl less) ↦ rw (lt-ltb m n less) (r.0, r.1, r.2, r.3, Rises-with_counter m ps n d r.4 less b c e)
      | inr (inr more) ↦ rw (le-ltb m n (omega arith), ne_eqb m n (omega arith)) (a, b, c, e, (more, r.1, r.2, r.3, r.4))
    ]

pub length-with_counter : (ps : Pairs) (n d : ℕ) → length (with_counter ps n d) ≤ length ps + 1
length-with_counter [] n d = omega arith
length-with_counter ((m, c) ∷ ps) n d =
    elim (cases_order m n) [
      | inl same ↦ rw (le-ltb m n (omega arith), eq-eqb m n same) (omega arith)
      | inr (inl less) ↦ rw (lt-ltb m n less) (omega (arith, length-with_counter ps n d))
      | inr (inr more) ↦ rw (le-ltb m n (omega arith), ne_eqb m n (omega arith)) (omega arith)
    ]

-- a node that has a counter keeps its place
pub length_present : (low : ℕ) (ps : Pairs) (n d : ℕ) → Rises low ps → 0 < counter ps n → length (with_counter ps n d) ≡ length ps
length_present low [] n d r h = absurd (omega arith)
length_present low ((m, c) ∷ ps) n d r h =
    elim (cases_order m n) [
      | inl same ↦ rw (le-ltb m n (omega arith), eq-eqb m n same) refl
      | inr (inl less) ↦ rw (lt-ltb m n less) (ap suc (length_present m ps n d r.4 (rw (ne_eqb m n (omega arith)) at h)))
      | inr (inr more) ↦ absurd (omega (arith, rw (ne_eqb m n (omega arith)) at h, counter_below m ps n (omega arith) r.4))
    ]

pub raised_clock : (ps : Pairs) (n : ℕ) → IsClock ps → 0 < n → n < 2 ^ 16 → raise_fault ps n ≡ None → counter ps n < 2 ^ 64 → IsClock (raised ps n)
raised_clock ps n r a b none small =
    let full : (eqb (counter ps n) 0 && leb 32 (length ps)) ≡ false = elim
    (cases_Bool (eqb (counter ps n) 0 && leb 32 (length ps))) [ inl t ↦ cc (none, t) | inr f ↦ f ] in
    let top : eqb (counter ps n) 18446744073709551615 ≡ false = elim
    (cases_Bool (eqb (counter ps n) 18446744073709551615)) [ inl t ↦ cc (none, t, full) | inr f ↦ f ] in
    let low : counter ps n ≢ 18446744073709551615 = eqb-false (counter ps n) 18446744073709551615 top in
    let rising = Rises-with_counter 0 ps n (counter ps n + 1) r.rising a b (omega arith) (omega arith) in
    let short : length (with_counter ps n (counter ps n + 1)) ≤ 32 = elim (and_cases _ _ full) [
      | inl absent ↦ let there : counter ps n ≢ 0 = eqb-false (counter ps n) 0 absent in
          omega (arith, length_present 0 ps n (counter ps n + 1) r.rising (omega arith), r.short)
      | inr room ↦ omega (arith, leb-false 32 (length ps) room, length-with_counter ps n (counter ps n + 1))
    ] in
    record { rising = rising; short = short }

-- no pair of good pairs is bad
pub good_at : (ps : Pairs) (i : ℕ) (d : ℕ × ℕ) → list_any is_bad_pair ps ≡ false → i < length ps → is_bad_pair (get_or ps i d) ≡ false
good_at [] i d e h = absurd (omega arith)
good_at (p ∷ ps) zero d e h = (or_parts _ _ e).0
good_at (p ∷ ps) (suc i) d e h = good_at ps i d (or_parts _ _ e).1 (omega arith)

pub record IsGoodPair (n c : ℕ) : Type 0 where
  pub above : 0 < n
  pub below : n < 2 ^ 16
  pub some : 0 < c

pub good_pair : (p : ℕ × ℕ) → is_bad_pair p ≡ false → IsGoodPair p.0 p.1
good_pair p e =
    let abc = or_parts _ _ e in
    let ab = or_parts _ _ abc.0 in
    let not_zero : p.0 ≢ 0 = eqb-false p.0 0 ab.0 in
    let not_none : p.1 ≢ 0 = eqb-false p.1 0 abc.1 in
    record { above = omega arith; below = omega (arith, ltb-false 65535 p.0 ab.1); some = omega arith }

pub clock_of-drop : (ps : Pairs) (i : ℕ) (d : ℕ × ℕ) → i < length ps
    → clock_of (drop i ps) ≡ with_counter (clock_of (drop (i + 1) ps)) (get_or ps i d).0 (get_or ps i d).1
clock_of-drop ps i d h = rw (add-one i, drop-cons ps i d h) refl

pub counter-clock_of : (ps : Pairs) (n : ℕ) → counter (clock_of ps) n ≡ counter ps n
counter-clock_of [] n = refl
counter-clock_of ((m, c) ∷ ps) n = counter-with_counter (clock_of ps) m c n ∙ ap (cond (eqb m n) c) (counter-clock_of ps n)

eqb_turned : (m n : ℕ) → eqb m n ≡ eqb n m
eqb_turned m n = grind (arith, nat_tests)

pub has_node-push : (ps : Pairs) (p : ℕ × ℕ) (n : ℕ) → has_node (ps ++ p ∷ []) n ≡ (has_node ps n || eqb p.0 n)
has_node-push ps p n = list_any-append (λ q. eqb q.0 n) ps (p ∷ []) ∙ ap (λ b. has_node ps n || b) (or-false (eqb p.0 n))

-- one more pair repeats a node if its node came before
pub has_repeat-push : (ps : Pairs) (p : ℕ × ℕ) → has_repeat (ps ++ p ∷ []) ≡ (has_repeat ps || has_node ps p.0)
has_repeat-push [] p = refl
has_repeat-push (q ∷ ps) p =
    (λ i. has_node-push ps p q.0 i || has_repeat-push ps p i)
    ∙ ap (λ b. (has_node ps q.0 || b) || (has_repeat ps || has_node ps p.0)) (eqb_turned p.0 q.0)
    ∙ regroup (has_node ps q.0) (eqb q.0 p.0) (has_repeat ps) (has_node ps p.0)
  where
    regroup : (a b c d : Bool) → ((a || b) || (c || d)) ≡ ((a || c) || (b || d))
    regroup true b c d = refl
    regroup false true true d = refl
    regroup false true false d = refl
    regroup false false true d = refl
    regroup false false false d = refl

-- a repeat in the first pairs is one in all
pub has_repeat-front : (ps qs : Pairs) → has_repeat ps ≡ true → has_repeat (ps ++ qs) ≡ true
has_repeat-front [] qs e = absurd (true≢false (sym e))
has_repeat-front (p ∷ ps) qs e = elim (or_cases (has_node ps p.0) (has_repeat ps) e) [
  | inl here ↦ or_left _ _ (list_any-append (λ q. eqb q.0 p.0) ps qs ∙ or_left _ _ here)
  | inr later ↦ or_right _ _ (has_repeat-front ps qs later)
]

-- the pairs up to i, and the pair there
pub has_repeat_more : (ps : Pairs) (i : ℕ) (d : ℕ × ℕ) → i < length ps
    → has_repeat (take (i + 1) ps) ≡ (has_repeat (take i ps) || has_node (take i ps) (get_or ps i d).0)
has_repeat_more ps i d h = ap has_repeat (take_more ps i d h) ∙ has_repeat-push (take i ps) (get_or ps i d)

pub has_node_more : (ps : Pairs) (i n : ℕ) (d : ℕ × ℕ) → i < length ps
    → has_node (take (i + 1) ps) n ≡ (has_node (take i ps) n || eqb (get_or ps i d).0 n)
has_node_more ps i n d h = ap (λ t. has_node t n) (take_more ps i d h) ∙ has_node-push (take i ps) (get_or ps i d) n

pub has_repeat_found : (ps : Pairs) (i : ℕ) (d : ℕ × ℕ) → i < length ps → has_node (take i ps) (get_or ps i d).0 ≡ true → has_repeat ps ≡ true
has_repeat_found ps i d h e = ap has_repeat (sym (take-append-drop (i + 1) ps))
    ∙ has_repeat-front (take (i + 1) ps) (drop (i + 1) ps) (has_repeat_more ps i d h ∙ or_right (has_repeat (take i ps)) _ e)

-- ---- the greater counter of each node

pub counter-merged : (a b : Pairs) (n : ℕ) → counter (merged a b) n ≡ max (counter b n) (counter a n)
counter-merged a [] n = omega arith
counter-merged a ((m, c) ∷ b) n =
    counter-with_counter (merged a b) m (max c (counter a m)) n
    ∙ elim (eqb m n) as (λ t. eqb m n ≡ t → cond t (max c (counter a m)) (counter (merged a b) n) ≡ max (cond t c (counter b n)) (counter a n)) [
      | true ↦ λ t. ap (λ k. max c (counter a k)) (eqb-true m n t)
      | false ↦ λ t. counter-merged a b n
    ] refl

counter_small : (low : ℕ) (ps : Pairs) (n : ℕ) → Rises low ps → counter ps n < 2 ^ 64
counter_small low [] n r = omega arith
counter_small low ((m, c) ∷ ps) n r = elim (eqb m n) as (λ t. cond t c (counter ps n) < 2 ^ 64) [ true ↦ r.3 | false ↦ counter_small m ps n r.4 ]

pub Rises-merged : (low : ℕ) (a b : Pairs) → Rises 0 a → Rises low b → Rises 0 (merged a b)
Rises-merged low a [] ra rb = ra
Rises-merged low a ((m, c) ∷ b) ra rb =
    let small = counter_small 0 a m ra in
    Rises-with_counter 0 (merged a b) m (max c (counter a m)) (Rises-merged m a b ra rb.4) (omega arith) rb.1
    (omega (arith, rb.2, le-max_left c (counter a m))) (max_below c (counter a m) (2 ^ 64) rb.3 small)
  where
    max_below : (x y k : ℕ) → x < k → y < k → max x y < k
    max_below x y k p q = grind (arith, nat_tests)

pub length-merged : (low : ℕ) (a b : Pairs) → Rises 0 a → Rises low b
    → length (merged a b) ≤ length a + length (filter (λ p. eqb (counter a p.0) 0) b)
length-merged low a [] ra rb = omega arith
length-merged low a ((m, c) ∷ b) ra rb =
    let rest = length-merged m a b ra rb.4 in
    elim (eqb (counter a m) 0) as
    (λ t. eqb (counter a m) 0 ≡ t
    → length (with_counter (merged a b) m (max c (counter a m))) ≤ length a + length
    (cond t ((m, c) ∷ filter (λ p. eqb (counter a p.0) 0) b) (filter (λ p. eqb (counter a p.0) 0) b))) [
      | true ↦ λ t. omega (arith, rest, length-with_counter (merged a b) m (max c (counter a m)))
      | false ↦ λ t.
          let some : counter a m ≢ 0 = eqb-false (counter a m) 0 t in
          let there : 0 < counter (merged a b) m = omega (arith, counter-merged a b m, le-max_right (counter b m) (counter a m)) in
          omega (arith, rest, length_present 0 (merged a b) m (max c (counter a m)) (Rises-merged m a b ra rb.4) there)
    ] refl

pub merged-drop : (a b : Pairs) (i : ℕ) (d : ℕ × ℕ) → i < length b
    → merged a (drop i b) ≡ with_counter (merged a (drop (i + 1) b)) (get_or b i d).0 (max (get_or b i d).1 (counter a (get_or b i d).0))
merged-drop a b i d h = rw (add-one i, drop-cons b i d h) refl

pub merged_clock : (a b : Pairs) → IsClock a → IsClock b → length a + length (filter (λ p. eqb (counter a p.0) 0) b) ≤ 32 → IsClock (merged a b)
merged_clock a b ca cb few =
    record { rising = Rises-merged 0 a b ca.rising cb.rising; short = omega (arith, few, length-merged 0 a b ca.rising cb.rising) }

pub merge_fault_over : (a b : Pairs) → 32 < length a + length (filter (λ p. eqb (counter a p.0) 0) b) → merge_fault a b ≡ Some ClockFull
merge_fault_over a b h = rw (lt-ltb 32 (length a + length (filter (λ p. eqb (counter a p.0) 0) b)) h) refl

pub merge_fault_none : (a b : Pairs) → length a + length (filter (λ p. eqb (counter a p.0) 0) b) ≤ 32 → merge_fault a b ≡ None
merge_fault_none a b h = rw (le-ltb 32 (length a + length (filter (λ p. eqb (counter a p.0) 0) b)) h) refl
