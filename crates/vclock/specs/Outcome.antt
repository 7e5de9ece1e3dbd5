-- The outcome of a call as one value: its result and the state after it, or the first cause of its refusal.
use Rattle.std.specs.Prelude.{◌≡◌, ◌⊎◌, Option, Some, None, Result, Ok, Err, Bool, true, false, IsTrue}
use Rattle.vclock.specs.declared.refusal.Refusal.{Refusal}
use Rattle.vclock.specs.declared.refusal.Refusal.TheVariants.{NoMemory}

-- the result and the state after the call, or the cause of its refusal
pub data Outcome (T S : Type 0) : Type 0 where
  gives : T → S → Outcome T S
  refuses : Refusal → Outcome T S

-- the outcome is not a refusal
abbrev pub is_given : {T S : Type 0} → Outcome T S → Bool
is_given (gives x s) = true
is_given (refuses e) = false

-- in a `do`, `p ← o`: the rest, with the result of o (p.0) and the state after it (p.1), unless o is refused
infixl 10 ◌>>=◌
abbrev pub ◌>>=◌ : {A B R S : Type 0} → Outcome A R → (A × R → Outcome B S) → Outcome B S
(gives x s) >>= rest = rest (x, s)
(refuses e) >>= rest = refuses e

-- in a `do`, a line that is a cause: the rest, unless there is a cause
infixl 10 ◌>>◌
abbrev pub ◌>>◌ : {T S : Type 0} → Option Refusal → Outcome T S → Outcome T S
None >> rest = rest
(Some e) >> rest = refuses e

-- an outcome on a part, as an outcome on the whole that has the part
abbrev pub through : {T R S : Type 0} → (R → S) → Outcome T R → Outcome T S
through whole (gives x s) = gives x (whole s)
through whole (refuses e) = refuses e

-- A call that allocates has the outcome o. It is refused for o's cause, or as NoMemory if o is not a refusal. A refused
-- call changes nothing.
abbrev pub Does : {T S : Type 0} → Result T Refusal → S → S → Outcome T S → Type 0
Does (Ok x) old new o = o ≡ gives x new
Does (Err e) old new o = (new ≡ old) × (((e ≡ NoMemory) × IsTrue (is_given o)) ⊎ (o ≡ refuses e))

-- A call that does not allocate has the outcome o. A refused call changes nothing.
abbrev pub DoesAtOnce : {T S : Type 0} → Result T Refusal → S → S → Outcome T S → Type 0
DoesAtOnce (Ok x) old new o = o ≡ gives x new
DoesAtOnce (Err e) old new o = (new ≡ old) × (o ≡ refuses e)

-- A call that needs memory to find or report its causes has the outcome o: NoMemory may replace any result. A refused
-- call changes nothing.
abbrev pub DoesOrNoMemory : {T S : Type 0} → Result T Refusal → S → S → Outcome T S → Type 0
DoesOrNoMemory (Ok x) old new o = o ≡ gives x new
DoesOrNoMemory (Err e) old new o = (new ≡ old) × ((e ≡ NoMemory) ⊎ (o ≡ refuses e))

-- A call has the outcome o, but may have done a part of its work when memory runs out.
abbrev pub DoesOrBreaksOff : {T S : Type 0} → Result T Refusal → S → S → Outcome T S → Type 0
DoesOrBreaksOff (Ok x) old new o = o ≡ gives x new
DoesOrBreaksOff (Err e) old new o = (e ≡ NoMemory) ⊎ ((new ≡ old) × (o ≡ refuses e))

-- A call that does not allocate has the outcome o, and o describes only the state after the call.
abbrev pub ChangesAtOnce : {T S : Type 0} → Result T Refusal → S → S → Outcome (Unit {0}) S → Type 0
ChangesAtOnce (Ok x) old new o = o ≡ gives tt new
ChangesAtOnce (Err e) old new o = (new ≡ old) × (o ≡ refuses e)
