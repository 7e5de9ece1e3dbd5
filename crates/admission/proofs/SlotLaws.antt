-- Slots as numbers.
use Rattle.std.proofs.Common.{◌≡◌, ℕ, ◌+◌, ◌≤◌, Bool, true, false, cond, sym, ap, arith}
use Rattle.std.specs.Prelude.{nat_lt}
use Rattle.vclock.specs.Outcome.{Outcome, gives, refuses}
use Rattle.vclock.specs.declared.refusal.Refusal.TheVariants.{NoSlot}
use Rattle.admission.specs.Admission.{Admission, IsAdmission, lend}

abbrev done : Admission → Outcome (Unit {0}) Admission
done s = gives tt s

abbrev slots_after : Outcome (Unit {0}) Admission → ℕ
slots_after (gives x s) = s.slots
slots_after (refuses e) = 0

more_if : (a b : Admission) (lends : Bool) → cond lends (done (record a { slots = a.slots + 1 })) (refuses NoSlot) ≡ done b → b.slots ≡ a.slots + 1
more_if a b true e = sym (ap slots_after e)
more_if a b false e = absurd (cc)

-- a slot that was lent is one more
pub lent_more : (a b : Admission) → lend a ≡ gives tt b → b.slots ≡ a.slots + 1
lent_more a b e = more_if a b (nat_lt a.slots a.target) e

-- there was a part for it
pub has_part : (a b : Admission) (parts : ℕ) → lend a ≡ gives tt b → IsAdmission b → parts + a.slots ≡ 1024 → 1 ≤ parts
has_part a b parts is valid all = omega (arith, lent_more a b is, valid.slots, valid.ceiling, all)
