-- Slots in handles of C.
use Rattle.std.specs.Prelude.{Bool}
use Rattle.admission.specs.Admission.{Admission}
use Rattle.antientropy_c.specs.declared.slots.Slots.{Slots}

abbrev pub slots_in : Slots → Bool × Admission
slots_in h = (h.held, h.budget)
