-- The order of versions by their fields is the order of their texts.
use Rattle.std.proofs.Common.{◌≡◌, ℕ, suc, zero, ◌+◌, ◌*◌, ◌/◌, ◌%◌, ◌^◌, ◌<◌, ◌≤◌, List, [], ◌∷◌, ◌++◌, length, refl, ap, sym, subst, ◌∙◌, arith}
use Rattle.std.proofs.Common.{inl, inr, append_assoc, flat_map}
use Rattle.std.proofs.lemmas.Bool.{cases_order, lt-ltb, le-ltb, eq-eqb, ne_eqb}
use Rattle.std.proofs.Math.Arith.{mod-mul}
use Rattle.std.proofs.Math.Nat.{mul-le-mul_right, suc-mul, pow-succ', pow-suc, mod-lt, mod-eq_of_lt, div-one}
use Rattle.std.specs.declared.cmp.Ordering.{Ordering}
use Rattle.std.specs.declared.cmp.Ordering.TheVariants.{Less, Equal, Greater}
use Rattle.std.specs.Ordering.{ordering_then, nat_cmp}
use Rattle.std.specs.Cmp.Lexicographic.{slice_cmp}
use Rattle.std.specs.FinMap.{nat_cmp-IsAntisymmetric}
use Rattle.std.specs.Int.{bytes_high_first, byte_at}
use Rattle.vclock.specs.Clock.{Pairs, Rises}
use Rattle.std.specs.List.{AllByRecursion}
use Rattle.vclock.specs.declared.format.Format.TheVariants.{One, Two}
use Rattle.version_set.specs.Kind.{kind_byte}
use Rattle.version_set.specs.declared.version.Version.{Version}
use Rattle.version_set.specs.Version.{version_cmp, pair_cmp, pair_text, plain_text, text_cmp, HasText, IsLive, Ascends, AscendsBy}

less_is : (m n : ℕ) → m < n → nat_cmp m n ≡ Less
less_is m n h = rw (lt-ltb m n h) refl

equal_is : (m n : ℕ) → m ≡ n → nat_cmp m n ≡ Equal
equal_is m n h = rw (le-ltb m n (omega arith), eq-eqb m n h) refl

greater_is : (m n : ℕ) → n < m → nat_cmp m n ≡ Greater
greater_is m n h = rw (le-ltb m n (omega arith), ne_eqb m n (omega arith)) refl

then-assoc : (a b c : Ordering) → ordering_then (ordering_then a b) c ≡ ordering_then a (ordering_then b c)
then-assoc Less b c = refl
then-assoc Equal b c = refl
then-assoc Greater b c = refl

-- a digit, then what is below it
digits_cmp : (p a b c d : ℕ) → c < p → d < p → ordering_then (nat_cmp a b) (nat_cmp c d) ≡ nat_cmp (a * p + c) (b * p + d)
digits_cmp p a b c d hc hd =
    elim (cases_order a b) [
      | inl e ↦ rw (equal_is a b e) (subst (λ t. nat_cmp c d ≡ nat_cmp (a * p + c) (t * p + d)) e (shifted (a * p) c d))
      | inr (inl less) ↦ rw (less_is a b less) (sym (less_is (a * p + c) (b * p + d) (below p a b c d hc less)))
      | inr (inr more) ↦ rw (greater_is a b more) (sym (greater_is (a * p + c) (b * p + d) (below p b a d c hd more)))
    ]
  where
    shifted : (k c d : ℕ) → nat_cmp c d ≡ nat_cmp (k + c) (k + d)
    shifted k c d = elim (cases_order c d) [
      | inl e ↦ equal_is c d e ∙ sym (equal_is (k + c) (k + d) (omega arith))
      | inr (inl less) ↦ less_is c d less ∙ sym (less_is (k + c) (k + d) (omega arith))
      | inr (inr more) ↦ greater_is c d more ∙ sym (greater_is (k + c) (k + d) (omega arith))
    ]

    below : (p a b c d : ℕ) → c < p → a < b → a * p + c < b * p + d
    below p a b c d h less = let step : suc a * p ≤ b * p = mul-le-mul_right p less in omega (arith, step, suc-mul a p)

bytes_cmp : (k m n : ℕ) → slice_cmp nat_cmp (bytes_high_first k m) (bytes_high_first k n) ≡ nat_cmp (m % 256 ^ k) (n % 256 ^ k)
bytes_cmp zero m n = sym (equal_is (m % 1) (n % 1) (omega arith))
bytes_cmp (suc k) m n =
    rw (bytes_cmp k m n, digit k m, digit k n)
    (digits_cmp (256 ^ k) (m / 256 ^ k % 256) (n / 256 ^ k % 256) (m % 256 ^ k) (n % 256 ^ k) (low k m) (low k n)
    ∙ (λ i. nat_cmp (whole k m i) (whole k n i)))
  where
    positive : (k : ℕ) → 0 < 256 ^ k
    positive zero = omega arith
    positive (suc k) = let h = positive k in rw (pow-suc 256 k) (omega arith)

    low : (k m : ℕ) → m % 256 ^ k < 256 ^ k
    low k m = mod-lt m (positive k)

    digit : (k m : ℕ) → byte_at k m ≡ m / 256 ^ k % 256
    digit zero m = ap (λ t. t % 256) (sym (div-one m))
    digit (suc k) m = refl

    whole : (k m : ℕ) → m / 256 ^ k % 256 * 256 ^ k + m % 256 ^ k ≡ m % 256 ^ suc k
    whole k m = sym (ap (λ t. m % t) (pow-succ' 256 k) ∙ mod-mul m {m = 256} {c = 256 ^ k} (omega arith) (positive k))

-- what is no longer than its field
number_cmp : (k m n : ℕ) → m < 256 ^ k → n < 256 ^ k → slice_cmp nat_cmp (bytes_high_first k m) (bytes_high_first k n) ≡ nat_cmp m n
number_cmp k m n hm hn = bytes_cmp k m n ∙ (λ i. nat_cmp (mod-eq_of_lt hm i) (mod-eq_of_lt hn i))

length-bytes : (k m : ℕ) → length (bytes_high_first k m) ≡ k
length-bytes zero m = refl
length-bytes (suc k) m = ap suc (length-bytes k m)

-- fields of one length, and what follows them
slice_cmp-append : (a b s t : List ℕ) → length a ≡ length b
    → slice_cmp nat_cmp (a ++ s) (b ++ t) ≡ ordering_then (slice_cmp nat_cmp a b) (slice_cmp nat_cmp s t)
slice_cmp-append [] [] s t h = refl
slice_cmp-append [] (y ∷ b) s t h = absurd (omega arith)
slice_cmp-append (x ∷ a) [] s t h = absurd (omega arith)
slice_cmp-append (x ∷ a) (y ∷ b) s t h = ap (ordering_then (nat_cmp x y)) (slice_cmp-append a b s t (omega arith))
    ∙ sym (then-assoc (nat_cmp x y) _ _)

field_cmp : (k m n : ℕ) (s t : List ℕ) → m < 256 ^ k → n < 256 ^ k
    → slice_cmp nat_cmp (bytes_high_first k m ++ s) (bytes_high_first k n ++ t) ≡ ordering_then (nat_cmp m n) (slice_cmp nat_cmp s t)
field_cmp k m n s t hm hn = slice_cmp-append (bytes_high_first k m) (bytes_high_first k n) s t (length-bytes k m ∙ sym (length-bytes k n))
    ∙ ap (λ o. ordering_then o (slice_cmp nat_cmp s t)) (number_cmp k m n hm hn)

pair_text_cmp : (p q : ℕ × ℕ) (s t : List ℕ) → p.0 < 2 ^ 16 → q.0 < 2 ^ 16 → p.1 < 2 ^ 64 → q.1 < 2 ^ 64
    → slice_cmp nat_cmp (pair_text p ++ s) (pair_text q ++ t) ≡ ordering_then (pair_cmp p q) (slice_cmp nat_cmp s t)
pair_text_cmp p q s t a b c d =
    (λ i. slice_cmp nat_cmp (append_assoc (bytes_high_first 2 p.0) (bytes_high_first 8 p.1) s i)
    (append_assoc (bytes_high_first 2 q.0) (bytes_high_first 8 q.1) t i))
    ∙ field_cmp 2 p.0 q.0 (bytes_high_first 8 p.1 ++ s) (bytes_high_first 8 q.1 ++ t) a b
    ∙ ap (ordering_then (nat_cmp p.0 q.0)) (field_cmp 8 p.1 q.1 s t c d)
    ∙ sym (then-assoc (nat_cmp p.0 q.0) (nat_cmp p.1 q.1) _)

pairs_cmp : (low high : ℕ) (ps qs : Pairs) (s t : List ℕ) → Rises low ps → Rises high qs → length ps ≡ length qs
    → slice_cmp nat_cmp (flat_map pair_text ps ++ s) (flat_map pair_text qs ++ t) ≡ ordering_then (slice_cmp pair_cmp ps qs) (slice_cmp nat_cmp s t)
pairs_cmp low high [] [] s t rp rq h = refl
pairs_cmp low high [] (q ∷ qs) s t rp rq h = absurd (omega arith)
pairs_cmp low high (p ∷ ps) [] s t rp rq h = absurd (omega arith)
pairs_cmp low high ((m, c) ∷ ps) ((n, d) ∷ qs) s t rp rq h =
    (λ i. slice_cmp nat_cmp (append_assoc (pair_text (m, c)) (flat_map pair_text ps) s i)
    (append_assoc (pair_text (n, d)) (flat_map pair_text qs) t i))
    ∙ pair_text_cmp (m, c) (n, d) (flat_map pair_text ps ++ s) (flat_map pair_text qs ++ t) rp.1 rq.1 rp.3 rq.3
    ∙ ap (ordering_then (pair_cmp (m, c) (n, d))) (pairs_cmp m n ps qs s t rp.4 rq.4 (omega arith))
    ∙ sym (then-assoc (pair_cmp (m, c) (n, d)) (slice_cmp pair_cmp ps qs) _)

join_orders : (a x b c d : Ordering) → (a ≡ Equal → x ≡ ordering_then b (ordering_then c d))
    → ordering_then a x ≡ ordering_then (ordering_then (ordering_then a b) c) d
join_orders Less x b c d f = refl
join_orders Equal x b c d f = f refl ∙ sym (then-assoc b c d)
join_orders Greater x b c d f = refl

-- the fields but for the kind decide as the texts of format 1 do
plain_cmp-is : (v w : Version) → HasText v → HasText w
    → slice_cmp nat_cmp (plain_text v) (plain_text w) ≡ ordering_then
    (ordering_then (ordering_then (nat_cmp (length v.clock) (length w.clock)) (slice_cmp pair_cmp v.clock w.clock))
    (nat_cmp (length v.value) (length w.value))) (slice_cmp nat_cmp v.value w.value)
plain_cmp-is v w hv hw =
    let s = bytes_high_first 4 (length v.value) ++ v.value in
    let t = bytes_high_first 4 (length w.value) ++ w.value in
    join_orders (nat_cmp (length v.clock) (length w.clock)) (slice_cmp nat_cmp (flat_map pair_text v.clock ++ s) (flat_map pair_text w.clock ++ t))
    (slice_cmp pair_cmp v.clock w.clock) (nat_cmp (length v.value) (length w.value)) (slice_cmp nat_cmp v.value w.value) (λ e.
    pairs_cmp 0 0 v.clock w.clock s t hv.clock.rising hw.clock.rising (nat_cmp-IsAntisymmetric (length v.clock) (length w.clock) e)
    ∙ ap (ordering_then (slice_cmp pair_cmp v.clock w.clock)) (field_cmp 4 (length v.value) (length w.value) v.value w.value hv.value hw.value))

kind_first : (k a b c d : Ordering)
    → ordering_then (ordering_then (ordering_then (ordering_then k a) b) c) d ≡ ordering_then k
    (ordering_then (ordering_then (ordering_then a b) c) d)
kind_first Less a b c d = refl
kind_first Equal a b c d = refl
kind_first Greater a b c d = refl

-- the fields decide as the texts of format 2 do
pub text_cmp-is : (v w : Version) → HasText v → HasText w → text_cmp Two v w ≡ version_cmp v w
text_cmp-is v w hv hw =
    ap (ordering_then (nat_cmp (kind_byte v.kind) (kind_byte w.kind))) (plain_cmp-is v w hv hw)
    ∙ sym (kind_first (nat_cmp (kind_byte v.kind) (kind_byte w.kind)) (nat_cmp (length v.clock) (length w.clock)) (slice_cmp pair_cmp v.clock w.clock)
    (nat_cmp (length v.value) (length w.value)) (slice_cmp nat_cmp v.value w.value))

-- live versions lie in format 1 as they do in format 2
pub live_cmp-is : (v w : Version) → HasText v → HasText w → IsLive v → IsLive w → text_cmp One v w ≡ version_cmp v w
live_cmp-is v w hv hw lv lw =
    sym (ap (λ o. ordering_then o (slice_cmp nat_cmp (plain_text v) (plain_text w))) (λ i. nat_cmp (kind_byte (lv i)) (kind_byte (lw i))))
    ∙ text_cmp-is v w hv hw

-- a list in the order of the fields is one in the order of the texts
less_alike : (P : Version → Type 0) (f g : Version → Version → Ordering) → ((v w : Version) → P v → P w → g v w ≡ f v w)
    → (v : Version) (S : List Version) → P v → AllByRecursion P S → AllByRecursion (λ w. f v w ≡ Less) S → AllByRecursion (λ w. g v w ≡ Less) S
less_alike P f g same v [] pv all less = tt
less_alike P f g same v (w ∷ S) pv all less = (same v w pv all.0 ∙ less.0, less_alike P f g same v S pv all.1 less.1)

pub AscendsBy-alike : (P : Version → Type 0) (f g : Version → Version → Ordering) → ((v w : Version) → P v → P w → g v w ≡ f v w) → (S : List Version)
    → AllByRecursion P S → AscendsBy f S → AscendsBy g S
AscendsBy-alike P f g same [] all up = tt
AscendsBy-alike P f g same (v ∷ S) all up = (less_alike P f g same v S all.0 all.1 up.0, AscendsBy-alike P f g same S all.1 up.1)

both_all : (P Q : Version → Type 0) (S : List Version) → AllByRecursion P S → AllByRecursion Q S → AllByRecursion (λ v. P v × Q v) S
both_all P Q [] p q = tt
both_all P Q (v ∷ S) p q = ((p.0, q.0), both_all P Q S p.1 q.1)

-- the members of a set ascend by their texts
pub ascends_by_text : (S : List Version) → Ascends S → AllByRecursion HasText S → AscendsBy (text_cmp Two) S
ascends_by_text S up texts = AscendsBy-alike HasText version_cmp (text_cmp Two) text_cmp-is S texts up

pub ascends_by_live_text : (S : List Version) → Ascends S → AllByRecursion HasText S → AllByRecursion IsLive S → AscendsBy (text_cmp One) S
ascends_by_live_text S up texts live =
    AscendsBy-alike (λ v. HasText v × IsLive v) version_cmp (text_cmp One) (λ v w p q. live_cmp-is v w p.0 q.0 p.1 q.1) S
    (both_all HasText IsLive S texts live) up
