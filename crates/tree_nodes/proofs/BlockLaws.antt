-- Lists in blocks of one length.
use Rattle.std.proofs.Common.{◌≡◌, ℕ, zero, suc, ◌+◌, ◌*◌, ◌/◌, ◌%◌, ◌-◌, ◌<◌, List, [], ◌∷◌, ◌++◌, length, get_or, set, take, drop, replicate, sym}
use Rattle.std.proofs.Common.{ap, ◌∙◌, arith}
use Rattle.std.proofs.Math.Nat.{mul-suc}
use Rattle.std.proofs.Math.Seq.{take-add, take-append-add, drop-append-add, drop-nil}
use Rattle.std.specs.List.{AllByRecursion}
use Rattle.std.proofs.lemmas.List.{length-append, append-nil, flat_map_more, replicate-append-replicate, get_or_append_left, get_or-append_right}
use Rattle.std.proofs.lemmas.List.{set-append_left, set-append_right}
use Rattle.tree_nodes.specs.Blocks.{joined, AreOf}

-- How many elements blocks have.
pub length-joined : {X : Type 0} (n : ℕ) (blocks : List (List X)) → AreOf n blocks → length (joined blocks) ≡ n * length blocks
length-joined n [] all = omega arith
length-joined n (b ∷ blocks) all = omega (arith, all.0, length-append b (joined blocks), length-joined n blocks all.1, mul-suc n (length blocks))

-- An element is in its block.
pub joined-at : {X : Type 0} (n : ℕ) (blocks : List (List X)) (number at i : ℕ) (b : List X) (d : X) → AreOf n blocks → number < length blocks
    → at < n → i ≡ n * number + at → get_or (joined blocks) i d ≡ get_or (get_or blocks number b) at d
joined-at n [] number at i x d all h less e = absurd (omega arith)
joined-at n (b ∷ blocks) zero at i x d all h less e =
    let same : i ≡ at = omega (arith, e) in
    rw same (get_or_append_left b (joined blocks) d at (omega (arith, all.0)))
joined-at n (b ∷ blocks) (suc number) at i x d all h less e =
    let behind : i ≡ n * number + n + at = omega (arith, e, mul-suc n number) in
    get_or-append_right b (joined blocks) n i d all.0 (omega arith) ∙ joined-at n blocks number at (i - n) x d all.1 (omega arith) less (omega arith)

-- A change of an element is a change of its block.
pub joined-set : {X : Type 0} (n : ℕ) (blocks : List (List X)) (number at i : ℕ) (b : List X) (x : X) → AreOf n blocks → number < length blocks
    → at < n → i ≡ n * number + at → joined (set blocks number (set (get_or blocks number b) at x)) ≡ set (joined blocks) i x
joined-set n [] number at i c x all h less e = absurd (omega arith)
joined-set n (b ∷ blocks) zero at i c x all h less e =
    let same : i ≡ at = omega (arith, e) in
    rw same (sym (set-append_left b (joined blocks) at x (omega (arith, all.0))))
joined-set {X = X} n (b ∷ blocks) (suc number) at i c x all h less e =
    let behind : i ≡ n * number + n + at = omega (arith, e, mul-suc n number) in
    ap (λ (rest : List X). b ++ rest) (joined-set n blocks number at (i - n) c x all.1 (omega arith) less (omega arith))
    ∙ sym (set-append_right b (joined blocks) n i x all.0 (omega arith))

-- Equal blocks of equal elements.
pub joined-replicate : {X : Type 0} (n count : ℕ) (x : X) → joined (replicate count (replicate n x)) ≡ replicate (n * count) x
joined-replicate n zero x = ap (λ (k : ℕ). replicate k x) (let none : 0 ≡ n * 0 = omega arith in none)
joined-replicate {X = X} n (suc count) x =
    ap (λ (rest : List X). replicate n x ++ rest) (joined-replicate n count x) ∙ replicate-append-replicate n (n * count) x
    ∙ ap (λ (k : ℕ). replicate k x) (let sum : n + n * count ≡ n * suc count = omega (arith, mul-suc n count) in sum)

pub all-replicate : {X : Type 0} (P : X → Type 0) (n : ℕ) (x : X) → P x → AllByRecursion P (replicate n x)
all-replicate P zero x h = tt
all-replicate P (suc n) x h = (h, all-replicate P n x h)

-- ---- blocks of 64, which are all elements

-- which block has an element
pub number_within : {X : Type 0} (blocks : List (List X)) (all : List X) (i : ℕ) → joined blocks ≡ all → AreOf 64 blocks → i < length all
    → i / 64 < length blocks
number_within blocks all i same each within = omega (arith, ap length same, length-joined 64 blocks each)

-- what a read of a block and then of its element gives
pub read_at : {X : Type 0} (blocks : List (List X)) (all : List X) (i : ℕ) (b : List X) (d : X) → joined blocks ≡ all → AreOf 64 blocks
    → i < length all → b ≡ get_or blocks (i / 64) b → get_or b (i % 64) d ≡ get_or all i d
read_at {X = X} blocks all i b d same each within is =
    ap (λ (x : List X). get_or x (i % 64) d) is
    ∙ sym (joined-at 64 blocks (i / 64) (i % 64) i b d each (number_within blocks all i same each within) (omega arith) (omega arith))
    ∙ ap (λ (x : List X). get_or x i d) same

-- what a change of an element of a block leaves
pub set_at : {X : Type 0} (blocks : List (List X)) (all : List X) (i : ℕ) (b : List X) (x : X) → joined blocks ≡ all → AreOf 64 blocks
    → i < length all → b ≡ get_or blocks (i / 64) b → joined (set blocks (i / 64) (set b (i % 64) x)) ≡ set all i x
set_at {X = X} blocks all i b x same each within is =
    ap (λ (c : List X). joined (set blocks (i / 64) (set c (i % 64) x))) is
    ∙ joined-set 64 blocks (i / 64) (i % 64) i b x each (number_within blocks all i same each within) (omega arith) (omega arith)
    ∙ ap (λ (c : List X). set c i x) same

-- ---- one block after another

-- a block, read as so many elements
pub joined-block : {X : Type 0} (n : ℕ) (blocks : List (List X)) (number : ℕ) (b : List X) → AreOf n blocks → number < length blocks
    → take n (drop (n * number) (joined blocks)) ≡ get_or blocks number b
joined-block n [] number b all h = absurd (omega arith)
joined-block {X = X} n (x ∷ blocks) zero b all h =
    let none : n * 0 ≡ 0 = omega arith in
    let long : n ≡ length x + 0 = omega (arith, all.0) in
    ap (λ (k : ℕ). take n (drop k (x ++ joined blocks))) none ∙ ap (λ (k : ℕ). take k (x ++ joined blocks)) long ∙ take-append-add x (joined blocks) 0
    ∙ append-nil x
joined-block {X = X} n (x ∷ blocks) (suc number) b all h =
    let behind : n * suc number ≡ length x + n * number = omega (arith, all.0, mul-suc n number) in
    ap (λ (k : ℕ). take n (drop k (x ++ joined blocks))) behind ∙ ap (λ (xs : List X). take n xs) (drop-append-add x (joined blocks) (n * number))
    ∙ joined-block n blocks number b all.1 (omega arith)

-- One more block was copied from a list.
pub joined-more : {X : Type 0} (n : ℕ) (blocks : List (List X)) (xs : List X) (count : ℕ) (b : List X) → joined blocks ≡ take (n * count) xs
    → b ≡ take n (drop (n * count) xs) → joined (blocks ++ b ∷ []) ≡ take (n * (count + 1)) xs
joined-more {X = X} n blocks xs count b so_far is =
    let next : n * (count + 1) ≡ n * count + n = omega (arith, mul-suc n count) in
    sym (flat_map_more (λ (c : List X). c) [] blocks b) ∙ (λ i. so_far i ++ is i) ∙ sym (take-add (n * count) n xs)
    ∙ ap (λ (k : ℕ). take k xs) (sym next)

-- One more block of that length.
pub AreOf-push : {X : Type 0} (n : ℕ) (blocks : List (List X)) (b : List X) → AreOf n blocks → length b ≡ n → AreOf n (blocks ++ b ∷ [])
AreOf-push n [] b all long = (long, tt)
AreOf-push n (c ∷ blocks) b all long = (all.0, AreOf-push n blocks b all.1 long)

-- What stands behind the first.
pub drop_first : {X : Type 0} (n : ℕ) (xs : List X) → drop (n + 1) xs ≡ drop n (drop 1 xs)
drop_first n [] = drop-nil (n + 1) ∙ sym (drop-nil n)
drop_first {X = X} n (x ∷ xs) = ap (λ (k : ℕ). drop k (x ∷ xs)) (let next : n + 1 ≡ suc n = omega arith in next)
