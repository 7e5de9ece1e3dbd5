-- What the frame of a call on a handle owes, from what its parts did.
use Rattle.std.proofs.Common.{◌≡◌, ℕ, sym, subst}
use Rattle.std.specs.Prelude.{Bool, true, false, Result, MatchResult, Option, Some, IfSome}
use Rattle.vclock.specs.declared.refusal.Refusal.{Refusal}
use Rattle.c_handle.specs.declared.lent.Lent.{Lent}
use Rattle.c_calls.specs.Frame.{OnHeld, FillsWhere}
use Rattle.c_calls.specs.Numbers.{code_of, EMPTY, HELD}

pub on_held : (was now : Bool) (code : ℕ) (Same Right : Type 0) → was ≡ true → now ≡ true → Right → OnHeld was now code Same Right
on_held true now code Same Right is_was is_now right = (is_now, right)
on_held false now code Same Right is_was is_now right = absurd (cc)

pub on_empty : (was now : Bool) (code : ℕ) (Same Right : Type 0) → was ≡ false → now ≡ false → code ≡ EMPTY → Same → OnHeld was now code Same Right
on_empty true now code Same Right is_was is_now is_code same = absurd (cc)
on_empty false now code Same Right is_was is_now is_code same = (is_now, is_code, same)

-- a share was taken out, and nothing is held
pub share_empty : {S : Type 0} (old share : Lent S) (code : ℕ) (Same : Type 0) (Right : S → Type 0)
    → share ≡ old → share.held ≡ false → code ≡ EMPTY → Same → OnHeld old.held old.held code Same (IfSome old.value Right)
share_empty {S} old share code Same Right is was is_code same =
    subst (λ (h : Lent S). OnHeld h.held h.held code Same (IfSome h.value Right)) is (on_empty share.held share.held code Same _ was was is_code same)

-- a share was taken out, and its value read
pub share_read : {S : Type 0} (old share : Lent S) (code : ℕ) (Same : Type 0) (Right : S → Type 0) (x : S)
    → share ≡ old → share.held ≡ true → share.value ≡ Some x → Right x → OnHeld old.held old.held code Same (IfSome old.value Right)
share_read {S} old share code Same Right x is was value right =
    subst (λ (h : Lent S). OnHeld h.held h.held code Same (IfSome h.value Right)) is
    (on_held share.held share.held code Same _ was was (subst (λ (v : Option S). IfSome v Right) (sym value) right))

-- a handle was empty, and is filled by a call that returned r
pub fills : {B S : Type 0} (was : Bool) (code : ℕ) (old new : Bool × S) (Returned : Result B Refusal → Type 0) (value : B → S) (r : Result B Refusal)
    → was ≡ false → Returned r → code ≡ code_of r → MatchResult r (λ b. (new.0 ≡ true) × (new.1 ≡ value b)) (λ _. new.0 ≡ false)
    → FillsWhere was code old new Returned value
fills true code old new Returned value r is returned number filled = absurd (cc)
fills false code old new Returned value r is returned number filled = record { made = r; returned = returned; number = number; filled = filled }

-- it was full
pub full : {B S : Type 0} (was : Bool) (code : ℕ) (old new : Bool × S) (Returned : Result B Refusal → Type 0) (value : B → S)
    → was ≡ true → new.0 ≡ true → new.1 ≡ old.1 → code ≡ HELD → FillsWhere was code old new Returned value
full true code old new Returned value is held same number = (held, same, number)
full false code old new Returned value is held same number = absurd (cc)
