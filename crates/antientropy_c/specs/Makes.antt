-- The making of a value in a handle.
use Rattle.std.specs.Prelude.{◌≡◌, ℕ, Bool, true, false, Option, Result, OnErr}
use Rattle.vclock.specs.Answer.{Answers}
use Rattle.vclock.specs.declared.refusal.Refusal.{Refusal}
use Rattle.antientropy_c.specs.Calls.{replica_in}
use Rattle.c_calls.specs.Kept.{KeptState}
use Rattle.c_calls.specs.Numbers.{Returns, HELD}
use Rattle.antientropy_c.specs.declared.replica.Replica.{Replica}

-- a handle holds a value that satisfies `Right`, or is empty on error
abbrev pub Takes : {S : Type 0} → Bool × S → Option Refusal → (S → Type 0) → Result (Unit {0}) Refusal → Type 0
Takes new cause Right r = Answers r cause (λ _. (new.0 ≡ true) × Right new.1) × OnErr r (new.0 ≡ false)

-- a full handle is unchanged, and HELD is returned; otherwise a value is made
abbrev pub MadeWhere : {S : Type 0} → Bool → ℕ → Bool × S → Bool × S → Option Refusal → (S → Type 0) → Type 0
MadeWhere true code old new cause Right = (new.0 ≡ true) × (new.1 ≡ old.1) × (code ≡ HELD)
MadeWhere false code old new cause Right = Returns code (Takes new cause Right)

unfoldable pub MakesIn : {S : Type 0} → ℕ → Bool × S → Bool × S → Option Refusal → (S → Type 0) → Type 0
MakesIn code old new cause Right = MadeWhere old.0 code old new cause Right

-- a replica is made
abbrev pub Makes : ℕ → Replica → Replica → Option Refusal → (KeptState → Type 0) → Type 0
Makes code old new cause Right = MakesIn code (replica_in old) (replica_in new) cause Right
