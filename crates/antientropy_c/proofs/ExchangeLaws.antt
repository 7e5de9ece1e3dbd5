-- What the opening of an exchange owes, from what its parts did.
use Rattle.std.proofs.Common.{◌≡◌, ℕ, refl, ◌∙◌, subst}
use Rattle.std.specs.Prelude.{Bool, true, false, Result, Ok, Err, MatchResult}
use Rattle.vclock.specs.declared.refusal.Refusal.{Refusal}
use Rattle.range_state.specs.State.{State}
use Rattle.exchange.specs.declared.exchange.Exchange.{Exchange}
use Rattle.c_calls.specs.Numbers.{code_of, HELD}
use Rattle.c_calls.specs.Exchanges.{unboxed}
use Rattle.antientropy_c.specs.Exchanges.{OpensIn, OpensWhere, Holds}
use Rattle.antientropy_c.proofs.CallLaws.{returns}

where_already : (was : Bool) (code : ℕ) (old new : Bool × Exchange) (s t : State) (Right : Result Exchange Refusal → Type 0)
    → was ≡ true → (new.0 ≡ true) × (new.1 ≡ old.1) × (code ≡ HELD) × (t ≡ s) → OpensWhere was code old new s t Right
where_already true code old new s t Right is same = same
where_already false code old new s t Right is same = absurd (cc)

where_opened : (was : Bool) (code : ℕ) (old new : Bool × Exchange) (s t : State) (Right : Result Exchange Refusal → Type 0)
    (r : Result Exchange Refusal)
    → was ≡ false → code ≡ code_of r → Right r × Holds r new → OpensWhere was code old new s t Right
where_opened true code old new s t Right r is number right = absurd (cc)
where_opened false code old new s t Right r is number right = returns code (λ r. Right r × Holds r new) r number right

-- an exchange was held already
pub already : (code : ℕ) (old new : Bool × Exchange) (s t : State) (Right : Result Exchange Refusal → Type 0) (kept : Exchange)
    → old.0 ≡ true → new.0 ≡ true → kept ≡ old.1 → new.1 ≡ kept → code ≡ HELD → t ≡ s → OpensIn code old new s t Right
unfolding OpensIn
already code old new s t Right kept was now is_old is_new is_code same =
    where_already old.0 code old new s t Right was (now, subst (λ (x : Exchange). new.1 ≡ x) is_old is_new, is_code, same)

same_code : {B : Type 0} (value : B → Exchange) (r : Result B Refusal) → code_of r ≡ code_of (unboxed value r)
same_code value (Ok b) = refl
same_code value (Err e) = refl

holds : {B : Type 0} (value : B → Exchange) (new : Bool × Exchange) (r : Result B Refusal)
    → MatchResult r (λ b. (new.0 ≡ true) × (new.1 ≡ value b)) (λ _. new.0 ≡ false) → Holds (unboxed value r) new
holds value new (Ok b) filled = filled
holds value new (Err e) filled = filled

-- none was, and one was opened, or refused
pub opened : {B : Type 0} (code : ℕ) (old new : Bool × Exchange) (s t : State) (Right : Result Exchange Refusal → Type 0) (value : B → Exchange)
    (r : Result B Refusal)
    → old.0 ≡ false → code ≡ code_of r → MatchResult r (λ b. (new.0 ≡ true) × (new.1 ≡ value b)) (λ _. new.0 ≡ false) → Right (unboxed value r)
    → OpensIn code old new s t Right
unfolding OpensIn
opened code old new s t Right value r was number filled right =
    where_opened old.0 code old new s t Right (unboxed value r) was (number ∙ same_code value r) (right, holds value new r filled)
