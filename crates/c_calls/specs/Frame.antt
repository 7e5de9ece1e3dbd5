-- The effect of a call on the value of a handle.
use Rattle.std.specs.Prelude.{◌≡◌, ℕ, Bool, true, false, Result, MatchResult}
use Rattle.vclock.specs.declared.refusal.Refusal.{Refusal}
use Rattle.c_calls.specs.Numbers.{code_of, EMPTY, HELD}

-- the call of a full handle leaves it full, and satisfies `Right`; the call of an empty handle leaves it empty, returns
-- EMPTY, and its other arguments are unchanged
abbrev pub OnHeld : Bool → Bool → ℕ → Type 0 → Type 0 → Type 0
OnHeld true now code Same Right = (now ≡ true) × Right
OnHeld false now code Same Right = (now ≡ false) × (code ≡ EMPTY) × Same

-- a value was made, or refused, by a call that returned it: the handle holds it, or is empty on error
pub record Fills {B S : Type 0} (code : ℕ) (new : Bool × S) (Returned : Result B Refusal → Type 0) (value : B → S) : Type 0 where
  pub made : Result B Refusal
  pub returned : Returned made
  pub number : code ≡ code_of made
  pub filled : MatchResult made (λ b. (new.0 ≡ true) × (new.1 ≡ value b)) (λ _. new.0 ≡ false)

-- a full handle is unchanged, and HELD is returned; otherwise it is filled
abbrev pub FillsWhere : {B S : Type 0} → Bool → ℕ → Bool × S → Bool × S → (Result B Refusal → Type 0) → (B → S) → Type 0
FillsWhere true code old new Returned value = (new.0 ≡ true) × (new.1 ≡ old.1) × (code ≡ HELD)
FillsWhere false code old new Returned value = Fills code new Returned value
