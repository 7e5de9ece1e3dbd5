-- The first bits of a long number are those of its first three bytes.
use Rattle.std.proofs.Common.{◌≡◌, ℕ, zero, suc, ◌+◌, ◌-◌, ◌*◌, ◌/◌, ◌%◌, ◌^◌, ◌<◌, ◌≤◌, List, [], ◌∷◌, ◌++◌, length, get_or, sym, ap, subst, ◌∙◌}
use Rattle.std.proofs.Common.{arith}
use Rattle.std.specs.Prelude.{slice_index}
use Rattle.std.proofs.Math.Nat.{pow-suc, pow-le-pow_right}
use Rattle.std.proofs.lemmas.Nat.{and_mask, shr-shr, shr_below, mul-add-lt}
use Rattle.std.specs.Int.Bits.{bit_and}
use Rattle.std.specs.Int.{w32, w64, to_le_bytes, from_be_bytes}
use Rattle.md5.specs.Md5.{md5, digest_bytes}
use Rattle.md5.proofs.StandardFacts.{length-md5}
use Rattle.vclock.proofs.ByteLaws.{IsBytes}
use Rattle.vclock.specs.declared.format.Format.{Format}
use Rattle.vclock.specs.declared.format.Format.TheVariants.{One, Two}
use Rattle.key_ring.specs.Places.{number_from, key_number, key_front, range_at, leaf_bits, leaf_at}

-- bytes, and then bytes
IsBytes-append : (xs ys : List ℕ) → IsBytes xs → IsBytes ys → IsBytes (xs ++ ys)
IsBytes-append [] ys p q i = q i
IsBytes-append (x ∷ xs) ys p q zero = p 0
IsBytes-append (x ∷ xs) ys p q (suc i) = IsBytes-append xs ys (λ k. p (suc k)) q i

-- a number is written as bytes
four_bytes : (n : ℕ) → IsBytes (to_le_bytes w32 n)
four_bytes n zero = omega arith
four_bytes n (suc zero) = omega arith
four_bytes n (suc (suc zero)) = omega arith
four_bytes n (suc (suc (suc zero))) = omega arith
four_bytes n (suc (suc (suc (suc i)))) = omega arith

-- and so are the first n numbers of a state
digest_bytes_fit : (h : List ℕ) (n : ℕ) → IsBytes (digest_bytes h n)
unfolding digest_bytes
digest_bytes_fit h zero i = omega arith
digest_bytes_fit h (suc n) i =
    IsBytes-append (digest_bytes h n) (to_le_bytes w32 (slice_index h n)) (digest_bytes_fit h n) (four_bytes (slice_index h n)) i

-- a digest is a list of bytes
md5_fits : (m : List ℕ) → IsBytes (md5 m)
unfolding md5
md5_fits m i = digest_bytes_fit _ 4 i

-- bytes spell a number below that power of 256
number_below : (bytes : List ℕ) → IsBytes bytes → number_from bytes < 256 ^ length bytes
number_below [] fits = omega arith
number_below (byte ∷ bytes) fits =
    let rest : number_from bytes < 256 ^ length bytes = number_below bytes (λ i. fits (suc i)) in
    let here : byte * 256 ^ length bytes + number_from bytes < 256 ^ length bytes * 256 = mul-add-lt byte (256 ^ length bytes) (number_from bytes) 256
    (fits 0) rest in
    rw (pow-suc 256 (length bytes)) here

-- the first eight bytes
abbrev pub first_eight : List ℕ → List ℕ
first_eight digest = get_or digest 0 0 ∷ get_or digest 1 0 ∷ get_or digest 2 0 ∷ get_or digest 3 0 ∷ get_or digest 4 0 ∷ get_or digest 5 0
    ∷ get_or digest 6 0 ∷ get_or digest 7 0 ∷ []

-- the number without its last 8 bytes
eight_left : (a b c d e f g h : ℕ) (rest : List ℕ) → length rest ≡ 8 → IsBytes rest
    → number_from (a ∷ b ∷ c ∷ d ∷ e ∷ f ∷ g ∷ h ∷ rest) / 2 ^ 64 ≡ a * 2 ^ 56 + b * 2 ^ 48 + c * 2 ^ 40 + d * 2 ^ 32 + e * 2 ^ 24 + f * 2 ^ 16 + g
    * 2 ^ 8 + h
eight_left a b c d e f g h rest len fits =
    let low : number_from rest < 256 ^ 8 = subst (λ n. number_from rest < 256 ^ n) len (number_below rest fits) in
    rw len (omega (arith, low))

-- the first 64 bits of 16 bytes
first_bits : (digest : List ℕ) → length digest ≡ 16 → IsBytes digest → number_from digest / 2 ^ 64 ≡ from_be_bytes w64 (first_eight digest)
first_bits [] len fits = absurd (omega arith)
first_bits (a ∷ []) len fits = absurd (omega arith)
first_bits (a ∷ b ∷ []) len fits = absurd (omega arith)
first_bits (a ∷ b ∷ c ∷ []) len fits = absurd (omega arith)
first_bits (a ∷ b ∷ c ∷ d ∷ []) len fits = absurd (omega arith)
first_bits (a ∷ b ∷ c ∷ d ∷ e ∷ []) len fits = absurd (omega arith)
first_bits (a ∷ b ∷ c ∷ d ∷ e ∷ f ∷ []) len fits = absurd (omega arith)
first_bits (a ∷ b ∷ c ∷ d ∷ e ∷ f ∷ g ∷ []) len fits = absurd (omega arith)
first_bits (a ∷ b ∷ c ∷ d ∷ e ∷ f ∷ g ∷ h ∷ rest) len fits =
    omega (arith, eight_left a b c d e f g h rest (omega arith) (λ i. fits (suc (suc (suc (suc (suc (suc (suc (suc i))))))))))

-- the first eight bytes of a key's digest are the first 64 bits of its number
pub front_is : (key digest : List ℕ) → digest ≡ md5 key → key_front key ≡ from_be_bytes w64 (first_eight digest)
unfolding key_front key_number
front_is key digest e = rw (← e) (first_bits digest (ap length e ∙ length-md5 key) (subst IsBytes (sym e) (md5_fits key)))

-- a key's number has 128 bits
key_number_below : (key : List ℕ) → key_number key < 2 ^ 128
unfolding key_number
key_number_below key =
    let whole : number_from (md5 key) < 256 ^ 16 = subst (λ n. number_from (md5 key) < 256 ^ n) (length-md5 key)
    (number_below (md5 key) (md5_fits key)) in
    whole

-- the first `keep` bits of a number are those of its first 24
cut_at : (n keep : ℕ) → keep ≤ 24 → n / 2 ^ (128 - keep) ≡ n / 2 ^ 104 / 2 ^ (24 - keep)
cut_at n keep le =
    let e : 128 - keep ≡ 104 + (24 - keep) = omega arith in
    rw e (sym (shr-shr n 104 (24 - keep)))

-- a range by the first three bytes
pub range_is : (bits : ℕ) (key : List ℕ) → bits ≤ 8 → range_at bits key ≡ key_number key / 2 ^ 104 / 2 ^ (24 - bits)
unfolding range_at
range_is bits key le = cut_at (key_number key) bits (omega arith)

-- a leaf by the first three bytes
pub leaf_is : (format : Format) (bits : ℕ) (key : List ℕ) → bits ≤ 8
    → leaf_at format bits key ≡ key_number key / 2 ^ 104 / 2 ^ (24 - bits - leaf_bits format) % 2 ^ leaf_bits format
unfolding leaf_at
leaf_is One bits key le =
    let j : 24 - bits - 8 ≡ 24 - (bits + 8) = omega arith in
    rw j (ap (λ n. n % 2 ^ 8) (cut_at (key_number key) (bits + 8) (omega arith)))
leaf_is Two bits key le =
    let j : 24 - bits - 12 ≡ 24 - (bits + 12) = omega arith in
    rw j (ap (λ n. n % 2 ^ 12) (cut_at (key_number key) (bits + 12) (omega arith)))

-- no range lies past the last one
pub range_below : (bits : ℕ) (key : List ℕ) → bits ≤ 8 → range_at bits key < 2 ^ bits
unfolding range_at
range_below bits key le =
    let e : bits + (128 - bits) ≡ 128 = omega arith in
    shr_below (key_number key) bits (128 - bits) (rw e (key_number_below key))

-- a range's number fits 16 bits
pub range_fits : (bits : ℕ) (key : List ℕ) → bits ≤ 8 → range_at bits key < 2 ^ 16
range_fits bits key le =
    let most : 2 ^ bits ≤ 2 ^ 8 = pow-le-pow_right (omega arith) le in
    omega (arith, range_below bits key le)

-- the mask of a leaf's bits takes a remainder
pub mask_is : (format : Format) (n : ℕ) → bit_and n (1 * 2 ^ leaf_bits format % 2 ^ 32 - 1) ≡ n % 2 ^ leaf_bits format
mask_is One n = and_mask n 8
mask_is Two n = and_mask n 12
