-- What a step of an outcome gave, and where it was refused.
use Rattle.std.proofs.Common.{◌≡◌, ◌⊎◌, inl, inr, Option, Some, None, refl}
use Rattle.std.specs.Prelude.{IsTrue}
use Rattle.vclock.specs.declared.refusal.Refusal.{Refusal}
use Rattle.vclock.specs.Outcome.{Outcome, gives, refuses, is_given, through, ◌>>=◌, ◌>>◌}

-- a step after a call on a part
pub within : {A B R Q S : Type 0} (whole : R → Q) (o : Outcome A R) (rest : A × Q → Outcome B S)
    → (o >>= λ p. rest (p.0, whole p.1)) ≡ (through whole o >>= rest)
within whole (gives x s) rest = refl
within whole (refuses e) rest = refl

-- what was given by a step after another, and what was given there
pub record Given {A B R S : Type 0} (o : Outcome A R) (rest : A × R → Outcome B S) (y : B) (t : S) : Type 0 where
  pub first : A
  pub between : R
  pub gave : o ≡ gives first between
  pub then_gave : rest (first, between) ≡ gives y t

pub given : {A B R S : Type 0} (o : Outcome A R) (rest : A × R → Outcome B S) (y : B) (t : S) → (o >>= rest) ≡ gives y t → Given o rest y t
given (gives x s) rest y t is = record { first = x; between = s; gave = refl; then_gave = is }
given (refuses e) rest y t is = absurd (cc)

not_both : {B S : Type 0} (o : Outcome B S) (e : Refusal) → IsTrue (is_given o) → o ≡ refuses e → ⊥
not_both (gives y t) e all is = absurd (cc)
not_both (refuses f) e all is = absurd (cc)

-- a step after which nothing is refused is the one that was
pub refused : {A B R S : Type 0} (o : Outcome A R) (rest : A × R → Outcome B S) (e : Refusal) → ((p : A × R) → IsTrue (is_given (rest p)))
    → (o >>= rest) ≡ refuses e → o ≡ refuses e
refused (gives x s) rest e all is = absurd (not_both (rest (x, s)) e (all (x, s)) is)
refused (refuses f) rest e all is = cc

-- a call that was refused at a cause, or after it
pub first_cause : {T S : Type 0} (cause : Option Refusal) (rest : Outcome T S) (e : Refusal) → (cause >> rest) ≡ refuses e
    → (cause ≡ Some e) ⊎ ((cause ≡ None) × (rest ≡ refuses e))
first_cause None rest e is = inr (refl, is)
first_cause (Some f) rest e is = inl (cc)
