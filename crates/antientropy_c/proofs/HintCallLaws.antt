-- What a call on a carrier's hints owes, from what its parts did to the store.
use Rattle.std.proofs.Common.{◌≡◌, ℕ, Bool, true, List, Option, ap}
use Rattle.vclock.specs.declared.refusal.Refusal.{Refusal}
use Rattle.hint_store.specs.declared.hint.Kept.{Kept}
use Rattle.antientropy_c.specs.Calls.{CallsOn}
use Rattle.c_calls.specs.Carried.{Carried, carried}
use Rattle.antientropy_c.specs.Makes.{MakesIn}
use Rattle.c_calls.specs.Numbers.{HELD}
use Rattle.antientropy_c.proofs.CallLaws as calls
use Rattle.antientropy_c.proofs.MakeLaws as makes

-- hints were held, and the store was taken from s to t
pub held : (code : ℕ) (was now : Bool) (before after : ℕ) (old new s t : List Kept) (Same : Type 0) (Right : Carried → Carried → Type 0)
    → was ≡ true → now ≡ true → s ≡ old → new ≡ t → Right (carried before s) (carried after t)
    → CallsOn code (was, carried before old) (now, carried after new) Same Right
held code was now before after old new s t Same Right is_was is_now is_old is_new right =
    calls.held code (was, carried before old) (now, carried after new) Same Right (carried before s) (carried after t) is_was is_now
    (ap (carried before) is_old) (ap (carried after) is_new) right

-- hints were held already
pub already : (code : ℕ) (was now : Bool) (before : ℕ) (old new kept : List Kept) (cause : Option Refusal) (Right : Carried → Type 0)
    → was ≡ true → now ≡ true → kept ≡ old → new ≡ kept → code ≡ HELD
    → MakesIn code (was, carried before old) (now, carried before new) cause Right
already code was now before old new kept cause Right is_was is_now is_old is_new is_code =
    makes.already code (was, carried before old) (now, carried before new) cause Right (carried before kept) is_was is_now
    (ap (carried before) is_old) (ap (carried before) is_new) is_code
