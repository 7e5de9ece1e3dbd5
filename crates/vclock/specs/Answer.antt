-- The results that a call may return.
use Rattle.std.specs.Prelude.{◌≡◌, ◌⊎◌, Option, Some, None, Result, Ok, Err}
use Rattle.vclock.specs.declared.refusal.Refusal.{Refusal}
use Rattle.vclock.specs.declared.refusal.Refusal.TheVariants.{NoMemory}

-- A call that allocates: Ok, with P, only if the cause is None; otherwise the first cause. NoMemory only if the cause
-- is None.
abbrev pub Answers : {T : Type 0} → Result T Refusal → Option Refusal → (T → Type 0) → Type 0
Answers (Ok x) cause P = (cause ≡ None) × P x
Answers (Err e) cause P = ((cause ≡ None) × (e ≡ NoMemory)) ⊎ (cause ≡ Some e)

-- A call that does not allocate: Ok, with P, only if the cause is None; otherwise the first cause.
abbrev pub AnswersAtOnce : {T : Type 0} → Result T Refusal → Option Refusal → (T → Type 0) → Type 0
AnswersAtOnce (Ok x) cause P = (cause ≡ None) × P x
AnswersAtOnce (Err e) cause P = cause ≡ Some e

-- A call that needs memory to find or report its causes, a list of clocks for example: NoMemory may replace any result.
abbrev pub AnswersOrNoMemory : {T : Type 0} → Result T Refusal → Option Refusal → (T → Type 0) → Type 0
AnswersOrNoMemory (Ok x) cause P = (cause ≡ None) × P x
AnswersOrNoMemory (Err e) cause P = (e ≡ NoMemory) ⊎ (cause ≡ Some e)

-- the first of two causes, if the second is tested after the first
abbrev pub first_fault : Option Refusal → Option Refusal → Option Refusal
first_fault (Some e) later = Some e
first_fault None later = later
