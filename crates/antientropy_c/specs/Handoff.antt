-- Hints in handles of C.
use Rattle.std.specs.Prelude.{◌≡◌, ℕ, Bool}
use Rattle.antientropy_c.specs.Calls.{CallsOn}
use Rattle.c_calls.specs.Carried.{Carried, carried}
use Rattle.antientropy_c.specs.declared.carrier.Carrier.{Carrier}

abbrev pub hints_in : Carrier → Bool × Carried
hints_in h = (h.store.held, carried h.before h.store.kept)

-- a call that does not change the hints
abbrev pub ShowsHints : ℕ → Carrier → Carrier → Type 0 → (Carried → Type 0) → Type 0
ShowsHints code old new Same Right = CallsOn code (hints_in old) (hints_in new) Same (λ s t. (t ≡ s) × Right s)
