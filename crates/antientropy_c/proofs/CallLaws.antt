-- What a call on a handle owes, from what its parts did.
use Rattle.std.proofs.Common.{◌≡◌, ℕ, List, sym, subst}
use Rattle.std.specs.Prelude.{Bool, true, false, Result}
use Rattle.vclock.specs.declared.refusal.Refusal.{Refusal}
use Rattle.c_calls.specs.Numbers.{code_of, Returns, EMPTY}
use Rattle.antientropy_c.specs.Calls.{CallsOn, CallsOnState, ReadsOn}
use Rattle.c_calls.proofs.FrameLaws.{on_held, on_empty}
use Rattle.c_calls.specs.Hands.{HandsOut, HandsOutRight}
use Rattle.c_calls.specs.Kept.{KeptState}
use Rattle.c_calls.specs.Merges.{HandsClock, GivesClock}
use Rattle.c_calls.specs.declared.pair.Pair.{Pair}
use Rattle.vclock.specs.Clock.{Pairs}
use Rattle.range_state.specs.State.{State}

-- nothing was held
pub empty : {S : Type 0} (code : ℕ) (old new : Bool × S) (Same : Type 0) (Right : S → S → Type 0)
    → old.0 ≡ false → new.0 ≡ false → code ≡ EMPTY → Same → CallsOn code old new Same Right
unfolding CallsOn
empty code old new Same Right was now is_code same = on_empty old.0 new.0 code Same (Right old.1 new.1) was now is_code same

-- a value was held, and taken from s to t
pub held : {S : Type 0} (code : ℕ) (old new : Bool × S) (Same : Type 0) (Right : S → S → Type 0) (s t : S)
    → old.0 ≡ true → new.0 ≡ true → s ≡ old.1 → new.1 ≡ t → Right s t → CallsOn code old new Same Right
unfolding CallsOn
held {S} code old new Same Right s t was now is_old is_new right =
    on_held old.0 new.0 code Same (Right old.1 new.1) was now
    (subst (λ (x : S). Right x new.1) is_old (subst (λ (x : S). Right s x) (sym is_new) right))

-- no replica was held
pub state_empty : (code : ℕ) (old new : Bool × KeptState) (Same : Type 0) (Right : State → State → Type 0)
    → old.0 ≡ false → new.0 ≡ false → code ≡ EMPTY → Same → CallsOnState code old new Same Right
unfolding CallsOnState
state_empty code old new Same Right was now is_code same = on_empty old.0 new.0 code Same _ was now is_code same

-- a replica was held, and its state taken from s to t
pub state_held : (code : ℕ) (old new : Bool × KeptState) (Same : Type 0) (Right : State → State → Type 0) (s t : State)
    → old.0 ≡ true → new.0 ≡ true → new.1.first ≡ old.1.first → new.1.renewed ≡ old.1.renewed → s ≡ old.1.state → new.1.state ≡ t → Right s t
    → CallsOnState code old new Same Right
unfolding CallsOnState
state_held code old new Same Right s t was now first renewed is_old is_new right =
    on_held old.0 new.0 code Same _ was now
    (first, renewed, subst (λ (x : State). Right x new.1.state) is_old (subst (λ (x : State). Right s x) (sym is_new) right))

-- a share was read, and nothing was held
pub reads_nothing : {H S : Type 0} (code : ℕ) (old new : H) (held : Bool) (s : S) (Same : Type 0) (Right : S → Type 0)
    → new ≡ old → held ≡ false → code ≡ EMPTY → Same → ReadsOn code old new held s Same Right
unfolding ReadsOn
reads_nothing code old new held s Same Right unchanged was is_code same = (unchanged, on_empty held held code Same (Right s) was was is_code same)

-- a share was read, and its value is t
pub reads_held : {H S : Type 0} (code : ℕ) (old new : H) (held : Bool) (s : S) (Same : Type 0) (Right : S → Type 0) (t : S)
    → new ≡ old → held ≡ true → t ≡ s → Right t → ReadsOn code old new held s Same Right
unfolding ReadsOn
reads_held {H} {S} code old new held s Same Right t unchanged was is right =
    (unchanged, on_held held held code Same (Right s) was was (subst (λ (x : S). Right x) is right))

-- the number is that of a result
pub returns : {T : Type 0} (code : ℕ) (Right : Result T Refusal → Type 0) (r : Result T Refusal) → code ≡ code_of r → Right r → Returns code Right
returns code Right r number right = record { outcome = r; number = number; right = right }

-- the bytes of a result are handed out
pub gives : (code : ℕ) (before after : ℕ × List ℕ) (Right : Result (List ℕ) Refusal → Type 0) (r : Result (List ℕ) Refusal)
    → HandsOut r code before after → Right r → HandsOutRight code before after Right
gives code before after Right r handed right = record { outcome = r; handed = handed; right = right }

-- the pairs of a clock are handed out
pub gives_clock : (code : ℕ) (before after : ℕ × List Pair) (Right : Result Pairs Refusal → Type 0) (r : Result Pairs Refusal)
    → HandsClock r code before after → Right r → GivesClock code before after Right
gives_clock code before after Right r handed right = record { outcome = r; handed = handed; right = right }
