-- Numbers that were read are spelled as they stood.
use Rattle.std.proofs.Common.{◌≡◌, ℕ, ◌≤◌, List, ◌++◌, length, take, drop, sym, ap, ◌∙◌, arith}
use Rattle.std.specs.Int.{w32, w64, from_be_bytes, to_be_bytes}
use Rattle.std.proofs.lemmas.List.{take-append-drop, length-take}
use Rattle.std.proofs.lemmas.Nat.{be_bytes_4, be_bytes_8}
use Rattle.vclock.proofs.ByteLaws.{IsBytes, IsBytes-take}

-- a front that is spelled so, and what follows it
parts_are : (n : ℕ) (bytes front spelled rest : List ℕ) → front ≡ take n bytes → rest ≡ drop n bytes → spelled ≡ front → bytes ≡ spelled ++ rest
parts_are n bytes front spelled rest f r s = rw (s, f, r) (sym (take-append-drop n bytes))

-- a number of four bytes and what follows it are spelled as they stood
pub four_stood : (n : ℕ) (bytes front rest : List ℕ) → IsBytes bytes → 4 ≤ length bytes → front ≡ take 4 bytes → rest ≡ drop 4 bytes
    → n ≡ from_be_bytes w32 front → bytes ≡ to_be_bytes w32 n ++ rest
four_stood n bytes front rest fits long f r e =
    let n-is : n ≡ from_be_bytes w32 (take 4 bytes) = e ∙ ap (from_be_bytes w32) f in
    parts_are 4 bytes front (to_be_bytes w32 n) rest f r
    (be_bytes_4 (take 4 bytes) n (omega (arith, length-take 4 bytes)) (IsBytes-take 4 bytes fits) n-is ∙ sym f)

-- a number of eight bytes and what follows it are spelled as they stood
pub eight_stood : (n : ℕ) (bytes front rest : List ℕ) → IsBytes bytes → 8 ≤ length bytes → front ≡ take 8 bytes → rest ≡ drop 8 bytes
    → n ≡ from_be_bytes w64 front → bytes ≡ to_be_bytes w64 n ++ rest
eight_stood n bytes front rest fits long f r e =
    let n-is : n ≡ from_be_bytes w64 (take 8 bytes) = e ∙ ap (from_be_bytes w64) f in
    parts_are 8 bytes front (to_be_bytes w64 n) rest f r
    (be_bytes_8 (take 8 bytes) n (omega (arith, length-take 8 bytes)) (IsBytes-take 8 bytes fits) n-is ∙ sym f)
