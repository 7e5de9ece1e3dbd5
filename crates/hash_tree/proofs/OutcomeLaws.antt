-- What holds around a call that has an outcome.
use Rattle.std.proofs.Common.{◌≡◌, ◌⊎◌, Result, Ok, Err, Vec, Global, inl, inr, sym, ap, subst, ◌∙◌}
use Rattle.std.proofs.lemmas.List.Elements.{same_from_all_zip}
use Rattle.std.specs.Vec.{vec_len}
use Rattle.std.specs.List.{AllZip}
use Rattle.vclock.specs.declared.refusal.Refusal.{Refusal}
use Rattle.vclock.specs.declared.refusal.Refusal.TheVariants.{NoMemory}
use Rattle.vclock.specs.Outcome.{Outcome, gives, refuses, through, Does}

abbrev result_of : {T S : Type 0} → T → Outcome T S → T
result_of d (gives x s) = x
result_of d (refuses e) = d

abbrev state_of : {T S : Type 0} → S → Outcome T S → S
state_of d (gives x s) = s
state_of d (refuses e) = d

-- a call that gave a result: this is the result, and the state after the call
pub given : {T S : Type 0} (x y : T) (s t : S) → gives x s ≡ gives y t → (y ≡ x) × (t ≡ s)
given x y s t is = (sym (ap (result_of x) is), sym (ap (state_of s) is))

-- a call that is to give a result is refused only for lack of memory
pub no_memory : {T S : Type 0} (e : Refusal) (old new s : S) (x : T) → Does (Err e) old new (gives x s) → (new ≡ old) × (e ≡ NoMemory)
no_memory e old new s x h = (h.0, elim h.1 [ inl n ↦ n.0 | inr r ↦ absurd (cc) ])

-- an outcome on a part is one on the whole
pub does_within : {T S R : Type 0} (f : S → R) (r : Result T Refusal) (old new s : S) (x : T) (was now : R) → f old ≡ was → f s ≡ now
    → Does r old new (gives x s) → Does r was (f new) (gives x now)
does_within f (Ok y) old new s x was now e g is = ap (λ o. gives x o) (sym g) ∙ ap (through f) is
does_within f (Err m) old new s x was now e g h =
    (ap f h.0 ∙ e, elim h.1 [ inl n ↦ inl n | inr r ↦ inr (ap (λ o. gives x o) (sym g) ∙ ap (through f) r) ])

-- what holds of the state before a call, and of the state that it is to give, holds of the state after it
pub does_keep : {T S : Type 0} (P : S → Type 0) (r : Result T Refusal) (old new s : S) (x : T) → P old → P s → Does r old new (gives x s) → P new
does_keep P (Ok y) old new s x was now is = subst P (ap (state_of s) is) now
does_keep P (Err m) old new s x was now h = subst P (sym h.0) was

-- a list of handles that is to be changed has the elements of the shared one
pub unshared : {X : Type 0} (old now : Vec X Global) → (now ≡ old) ⊎ (AllZip (λ (x y : X). y ≡ x) old.items now.items × (vec_len now ≡ vec_len old))
    → now.items ≡ old.items
unshared {X = X} old now (inl same) = ap (λ (v : Vec X Global). v.items) same
unshared {X = X} old now (inr copy) = same_from_all_zip (λ (x y : X). y ≡ x) old.items now.items copy.0 (λ x y e. e)
