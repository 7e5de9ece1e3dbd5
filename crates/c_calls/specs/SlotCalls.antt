-- Slots from C.
use Rattle.std.specs.Prelude.{◌≡◌, ℕ, ◌&&◌, nat_lt, nat_le, Option, Some, None, Result, Ok, Err, if◌then◌else◌}
use Rattle.vclock.specs.Outcome.{Outcome, gives, ◌>>◌}
use Rattle.vclock.specs.declared.refusal.Refusal.{Refusal}
use Rattle.vclock.specs.declared.refusal.Refusal.TheVariants.{BadRing}
use Rattle.admission.specs.Admission.{Admission, free_of}
use Rattle.c_calls.specs.declared.slot_calls.Percentile.{Percentile}
use Rattle.c_calls.specs.declared.slot_calls.SlotNumbers.{SlotNumbers}

-- the fault of bounds of a target: 1 ≤ floor ≤ ceiling ≤ 1,024
abbrev pub bounds_fault : ℕ → ℕ → Option Refusal
bounds_fault floor ceiling = if nat_lt 0 floor && nat_le floor ceiling && nat_le ceiling 1024 then None else Some BadRing

-- another target, within the bounds
abbrev pub target_fault : Admission → ℕ → Option Refusal
target_fault a target = if nat_le a.floor target && nat_le target a.ceiling then None else Some BadRing

abbrev pub set_target : Admission → ℕ → Outcome (Unit {0}) Admission
set_target a target = do
  target_fault a target
  gives tt (record a { target = target })

-- a percentile, if there were samples
abbrev pub percentile_from : Option ℕ → Percentile
percentile_from None = record { found = 0; micros = 0 }
percentile_from (Some p) = record { found = 1; micros = p }

-- the caller gets the percentile, unless the adjustment was refused
abbrev pub TellsPercentile : Result (Option ℕ) Refusal → Percentile → Percentile → Type 0
TellsPercentile (Ok p) old new = new ≡ percentile_from p
TellsPercentile (Err e) old new = new ≡ old

abbrev pub numbers_of : Admission → SlotNumbers
numbers_of a = record { target = a.target; lent = a.slots; free = free_of a }
