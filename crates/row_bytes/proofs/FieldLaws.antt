-- A field that is read is the field that was written, and what was written is read again.
use Rattle.std.proofs.Common.{◌≡◌, ℕ, ◌+◌, ◌%◌, ◌^◌, ◌<◌, ◌≤◌, Bool, true, false, cond, ltb, List, [], ◌∷◌, ◌++◌, length, take, drop, Result, Ok}
use Rattle.std.proofs.Common.{Err, refl, sym, ap, subst, ◌∙◌, append_assoc, arith}
use Rattle.std.specs.Int.{Width, w8, w16, w32, w64, byte_len, from_be_bytes, to_be_bytes}
use Rattle.std.proofs.lemmas.Bool.{ltb-false, le-ltb}
use Rattle.std.proofs.lemmas.List.{take_at, drop_at, take-append-drop, length-append, length-take, get_or-drop}
use Rattle.std.proofs.lemmas.Nat.{be_bytes_2, be_bytes_4, be_bytes_8, from_be_bytes-to_be_bytes_2, from_be_bytes-to_be_bytes_4}
use Rattle.std.proofs.lemmas.Nat.{from_be_bytes-to_be_bytes_8}
use Rattle.vclock.proofs.ByteLaws.{IsBytes, IsBytes-take}
use Rattle.row_bytes.specs.Reading.{◌>>=◌, number_at, field_at, bytes_at}

-- what is left of bytes is bytes
IsBytes-drop : (n : ℕ) (bytes : List ℕ) → IsBytes bytes → IsBytes (drop n bytes)
IsBytes-drop n bytes h i = rw get_or-drop (h (n + i))

-- the value of a step that did not fail
pub bind_ok : {A B : Type 0} (r : Result A ℕ) (f : A → Result B ℕ) (y : B) → (r >>= f) ≡ Ok y → (x : A) × (r ≡ Ok x) × (f x ≡ Ok y)
bind_ok (Ok x) f y e = (x, refl, e)
bind_ok (Err d) f y e = absurd cc

-- a test that did not fail
pub guard_ok : {A : Type 0} (b : Bool) (d : ℕ) (x y : A) → cond b (Err d) (Ok x) ≡ Ok y → (b ≡ false) × (x ≡ y)
guard_ok true d x y e = absurd cc
guard_ok false d x y e = (refl, cc)

-- a test that passed
pub passed_ok : {A : Type 0} (b : Bool) (d : ℕ) (x : Result A ℕ) (y : A) → cond b x (Err d) ≡ Ok y → (b ≡ true) × (x ≡ Ok y)
passed_ok true d x y e = (refl, e)
passed_ok false d x y e = absurd cc

-- a reader's result
abbrev pub done : {A : Type 0} → A → Result A ℕ
done x = Ok x

-- what one result holds is one value
pub ok_is : {A : Type 0} (x y : A) → done x ≡ done y → x ≡ y
ok_is x y e = cc

-- what a reader took from the front
pub record Takes (bytes text rest : List ℕ) : Type 0 where
  pub parts : bytes ≡ text ++ rest
  pub rest_fits : IsBytes rest

-- nothing was taken
pub Takes-none : (bytes : List ℕ) → IsBytes bytes → Takes bytes [] bytes
Takes-none bytes fits = record { parts = refl; rest_fits = fits }

-- two texts were taken, one after the other
pub Takes-then : (a x b y c : List ℕ) → Takes a x b → Takes b y c → Takes a (x ++ y) c
Takes-then a x b y c p q = record { parts = p.parts ∙ ap (λ (t : List ℕ). x ++ t) q.parts ∙ sym (append_assoc x y c); rest_fits = q.rest_fits }

-- ---- numbers

-- what is needed of a width: its numbers are below the limit, and spelled one way
pub record IsWide (w : Width) (limit : ℕ) : Type 0 where
  pub len : (n : ℕ) → length (to_be_bytes w n) ≡ byte_len w
  pub back : (bytes : List ℕ) → length bytes ≡ byte_len w → IsBytes bytes → to_be_bytes w (from_be_bytes w bytes) ≡ bytes
  pub again : (n : ℕ) → n < limit → from_be_bytes w (to_be_bytes w n) ≡ n
  pub below : (bytes : List ℕ) → IsBytes bytes → from_be_bytes w bytes < limit

-- a byte is spelled as itself
one_back : (bytes : List ℕ) → length bytes ≡ 1 → IsBytes bytes → to_be_bytes w8 (from_be_bytes w8 bytes) ≡ bytes
one_back [] len fits = absurd (omega arith)
one_back (b ∷ []) len fits =
    let e : b % 256 ≡ b = omega (arith, fits 0) in
    ap (λ (n : ℕ). n ∷ []) e
one_back (b ∷ c ∷ bytes) len fits = absurd (omega arith)

-- numbers of one byte
pub wide8 : IsWide w8 (2 ^ 8)
wide8 = record {
  len = λ n. refl;
  back = one_back;
  again = λ n lt. omega arith;
  below = λ bytes fits. omega (arith, fits 0);
}

-- numbers of two bytes
pub wide16 : IsWide w16 (2 ^ 16)
wide16 = record {
  len = λ n. refl;
  back = λ bytes len fits. be_bytes_2 bytes _ len fits refl;
  again = λ n lt. from_be_bytes-to_be_bytes_2 n lt;
  below = λ bytes fits. omega (arith, fits 0, fits 1);
}

-- numbers of four bytes
pub wide32 : IsWide w32 (2 ^ 32)
wide32 = record {
  len = λ n. refl;
  back = λ bytes len fits. be_bytes_4 bytes _ len fits refl;
  again = λ n lt. from_be_bytes-to_be_bytes_4 n lt;
  below = λ bytes fits. omega (arith, fits 0, fits 1, fits 2, fits 3);
}

-- numbers of eight bytes
pub wide64 : IsWide w64 (2 ^ 64)
wide64 = record {
  len = λ n. refl;
  back = λ bytes len fits. be_bytes_8 bytes _ len fits refl;
  again = λ n lt. from_be_bytes-to_be_bytes_8 n lt;
  below = λ bytes fits. omega (arith, fits 0, fits 1, fits 2, fits 3, fits 4, fits 5, fits 6, fits 7);
}

-- a number that was read is spelled so
number_takes : (w : Width) (limit : ℕ) (wide : IsWide w limit) (bytes : List ℕ) (n : ℕ) (rest : List ℕ) → IsBytes bytes
    → number_at w bytes ≡ Ok (n, rest) → Takes bytes (to_be_bytes w n) rest × (n < limit)
number_takes w limit wide bytes n rest fits e =
    let g = guard_ok (ltb (length bytes) (byte_len w)) (length bytes) (from_be_bytes w (take (byte_len w) bytes), drop (byte_len w) bytes)
    (n, rest) e in
    let long : byte_len w ≤ length bytes = ltb-false _ _ g.0 in
    let n-is : from_be_bytes w (take (byte_len w) bytes) ≡ n = ap (λ (p : ℕ × List ℕ). p.0) g.1 in
    let rest-is : drop (byte_len w) bytes ≡ rest = ap (λ (p : ℕ × List ℕ). p.1) g.1 in
    let front : to_be_bytes w n ≡ take (byte_len w) bytes = rw (← n-is)
    (wide.back (take (byte_len w) bytes) (omega (arith, length-take (byte_len w) bytes)) (IsBytes-take (byte_len w) bytes fits)) in (
      record {
        parts = rw (front, ← rest-is) (sym (take-append-drop (byte_len w) bytes));
        rest_fits = rw (← rest-is) (IsBytes-drop (byte_len w) bytes fits);
      },
      rw (← n-is) (wide.below (take (byte_len w) bytes) (IsBytes-take (byte_len w) bytes fits)),
    )

-- a number that is spelled so is read
number_again : (w : Width) (limit : ℕ) (wide : IsWide w limit) (n : ℕ) (rest : List ℕ) → n < limit
    → number_at w (to_be_bytes w n ++ rest) ≡ Ok (n, rest)
number_again w limit wide n rest lt =
    let len = wide.len n in
    let long : ltb (length (to_be_bytes w n ++ rest)) (byte_len w) ≡ false = le-ltb _ _ (omega (arith, length-append (to_be_bytes w n) rest)) in
    rw (long, take_at (to_be_bytes w n) rest (byte_len w) len, drop_at (to_be_bytes w n) rest (byte_len w) len, wide.again n lt) refl

-- a number that was read, with what its test says
pub record Field (w : Width) (limit : ℕ) (good : ℕ → Bool) (bytes : List ℕ) (n : ℕ) (rest : List ℕ) : Type 0 where
  pub takes : Takes bytes (to_be_bytes w n) rest
  pub below : n < limit
  pub passed : good n ≡ true

-- a tested number that was read is spelled so
pub field_takes : (w : Width) (limit : ℕ) (wide : IsWide w limit) (good : ℕ → Bool) (bytes : List ℕ) (x : ℕ × List ℕ) → IsBytes bytes
    → field_at w good bytes ≡ Ok x → Field w limit good bytes x.0 x.1
field_takes w limit wide good bytes x fits e =
    let b = bind_ok (number_at w bytes) (λ n. cond (good n.0) (Ok n) (Err (length bytes))) x e in
    let g = passed_ok (good b.0.0) (length bytes) (Ok b.0) x b.2 in
    let t = number_takes w limit wide bytes b.0.0 b.0.1 fits b.1 in
    subst (λ (y : ℕ × List ℕ). Field w limit good bytes y.0 y.1) (ok_is b.0 x g.1) (record { takes = t.0; below = t.1; passed = g.0 })

-- a tested number that is spelled so is read
pub field_again : (w : Width) (limit : ℕ) (wide : IsWide w limit) (good : ℕ → Bool) (n : ℕ) (rest : List ℕ) → n < limit → good n ≡ true
    → field_at w good (to_be_bytes w n ++ rest) ≡ Ok (n, rest)
field_again w limit wide good n rest lt passes =
    rw (number_again w limit wide n rest lt, passes) refl

-- ---- bytes

-- bytes that were read stand in front, as many as were asked for
pub bytes_takes : (n : ℕ) (bytes : List ℕ) (x : List ℕ × List ℕ) → IsBytes bytes → bytes_at n bytes ≡ Ok x → Takes bytes x.0 x.1 × (length x.0 ≡ n)
bytes_takes n bytes x fits e =
    let g = guard_ok (ltb (length bytes) n) (length bytes) (take n bytes, drop n bytes) x e in
    let long : n ≤ length bytes = ltb-false _ _ g.0 in
    subst (λ (y : List ℕ × List ℕ). Takes bytes y.0 y.1 × (length y.0 ≡ n)) g.1
    (record { parts = sym (take-append-drop n bytes); rest_fits = IsBytes-drop n bytes fits }, omega (arith, length-take n bytes))

-- bytes in front are read
pub bytes_again : (text rest : List ℕ) → bytes_at (length text) (text ++ rest) ≡ Ok (text, rest)
bytes_again text rest =
    let long : ltb (length (text ++ rest)) (length text) ≡ false = le-ltb _ _ (omega (arith, length-append text rest)) in
    rw (long, take_at text rest (length text) refl, drop_at text rest (length text) refl) refl
