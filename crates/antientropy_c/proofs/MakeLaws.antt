-- What a call that makes a value in a handle owes, from what its parts did.
use Rattle.std.proofs.Common.{◌≡◌, ℕ, refl, sym, ◌∙◌, subst}
use Rattle.std.specs.Prelude.{Bool, true, false, Result, Ok, Err, MatchResult, Option}
use Rattle.vclock.specs.Answer.{Answers}
use Rattle.vclock.specs.declared.refusal.Refusal.{Refusal}
use Rattle.c_calls.specs.Numbers.{code_of, HELD}
use Rattle.c_calls.specs.Frame.{OnHeld, FillsWhere}
use Rattle.antientropy_c.specs.Makes.{MakesIn, MadeWhere, Takes}
use Rattle.antientropy_c.specs.Calls.{ReadsOn}
use Rattle.antientropy_c.proofs.CallLaws.{returns}

where_already : {S : Type 0} (was : Bool) (code : ℕ) (old new : Bool × S) (cause : Option Refusal) (Right : S → Type 0)
    → was ≡ true → (new.0 ≡ true) × (new.1 ≡ old.1) × (code ≡ HELD) → MadeWhere was code old new cause Right
where_already true code old new cause Right is same = same
where_already false code old new cause Right is same = absurd (cc)

where_made : {S : Type 0} (was : Bool) (code : ℕ) (old new : Bool × S) (cause : Option Refusal) (Right : S → Type 0) (r : Result (Unit {0}) Refusal)
    → was ≡ false → code ≡ code_of r → Takes new cause Right r → MadeWhere was code old new cause Right
where_made true code old new cause Right r is number takes = absurd (cc)
where_made false code old new cause Right r is number takes = returns code (Takes new cause Right) r number takes

-- a value was held already
pub already : {S : Type 0} (code : ℕ) (old new : Bool × S) (cause : Option Refusal) (Right : S → Type 0) (kept : S)
    → old.0 ≡ true → new.0 ≡ true → kept ≡ old.1 → new.1 ≡ kept → code ≡ HELD → MakesIn code old new cause Right
unfolding MakesIn
already {S} code old new cause Right kept was now is_old is_new is_code =
    where_already old.0 code old new cause Right was (now, subst (λ (x : S). new.1 ≡ x) is_old is_new, is_code)

-- none was
pub made : {S : Type 0} (code : ℕ) (old new : Bool × S) (cause : Option Refusal) (Right : S → Type 0) (r : Result (Unit {0}) Refusal)
    → old.0 ≡ false → code ≡ code_of r → Takes new cause Right r → MakesIn code old new cause Right
unfolding MakesIn
made code old new cause Right r was number takes = where_made old.0 code old new cause Right r was number takes

-- what was made, without its value
abbrev unit_of : {B : Type 0} → Result B Refusal → Result (Unit {0}) Refusal
unit_of (Ok b) = Ok tt
unit_of (Err e) = Err e

same_code : {B : Type 0} (r : Result B Refusal) → code_of r ≡ code_of (unit_of r)
same_code (Ok b) = refl
same_code (Err e) = refl

takes : {B S : Type 0} (new : Bool × S) (cause : Option Refusal) (Right : S → Type 0) (value : B → S) (r : Result B Refusal)
    → Answers r cause (λ b. Right (value b)) → MatchResult r (λ b. (new.0 ≡ true) × (new.1 ≡ value b)) (λ _. new.0 ≡ false)
    → Takes new cause Right (unit_of r)
takes {B} {S} new cause Right value (Ok b) right filled = ((right.0, (filled.0, subst Right (sym filled.1) right.1)), tt)
takes new cause Right value (Err e) right filled = (right, filled)

-- none was, and a value was made, or refused
pub filled : {B S : Type 0} (code : ℕ) (old new : Bool × S) (cause : Option Refusal) (Right : S → Type 0) (value : B → S) (r : Result B Refusal)
    → old.0 ≡ false → code ≡ code_of r → MatchResult r (λ b. (new.0 ≡ true) × (new.1 ≡ value b)) (λ _. new.0 ≡ false)
    → Answers r cause (λ b. Right (value b))
    → MakesIn code old new cause Right
filled code old new cause Right value r was number fills right =
    made code old new cause Right (unit_of r) was (number ∙ same_code r) (takes new cause Right value r right fills)

-- where a call returns what is right, it makes a value in the handle that it fills
makes : {B S : Type 0} (was : Bool) (code : ℕ) (old new : Bool × S) (Returned : Result B Refusal → Type 0) (value : B → S) (cause : Option Refusal)
    (Right : S → Type 0)
    → ((r : Result B Refusal) → Returned r → Answers r cause (λ b. Right (value b))) → FillsWhere was code old new Returned value
    → MadeWhere was code old new cause Right
makes true code old new Returned value cause Right right fills = fills
makes false code old new Returned value cause Right right fills =
    returns code (Takes new cause Right) (unit_of fills.made) (fills.number ∙ same_code fills.made)
    (takes new cause Right value fills.made (right fills.made fills.returned) fills.filled)

-- the same of a call on a share of another value, which it reads
pub made_from : {B S T H : Type 0} (from after : T) (held : Bool) (s : S) (code : ℕ) (Same : Type 0) (old new : Bool × H)
    (Returned : Result B Refusal → Type 0) (value : B → H)
    → (cause : S → Option Refusal) (Right : S → H → Type 0)
    → ((r : Result B Refusal) → Returned r → Answers r (cause s) (λ b. Right s (value b)))
    → after ≡ from → OnHeld held held code Same (FillsWhere old.0 code old new Returned value)
    → ReadsOn code from after held s Same (λ a. MakesIn code old new (cause a) (Right a))
unfolding ReadsOn MakesIn
made_from from after true s code Same old new Returned value cause Right right unchanged done =
    (unchanged, (done.0, makes old.0 code old new Returned value (cause s) (Right s) right done.1))
made_from from after false s code Same old new Returned value cause Right right unchanged done = (unchanged, done)
