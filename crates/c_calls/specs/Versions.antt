-- One version of a key, for C.
use Rattle.std.specs.Prelude.{◌≡◌, ℕ, List, length, map, Option, Some, None, Ok}
use Rattle.version_set.specs.Kind.{kind_byte}
use Rattle.version_set.specs.declared.version.Version.{Version}
use Rattle.vclock.specs.Clock.{Pairs}
use Rattle.c_calls.specs.Hands.{HandsOut, copied, copy_code}
use Rattle.c_calls.specs.declared.pair.Pair.{Pair}
use Rattle.c_calls.specs.Numbers.{NO_VERSION}

-- the kind and the value of a version, if any; before and after are the stored number and the buffer
abbrev pub ShowsValue : Option Version → ℕ → ℕ → ℕ → ℕ × List ℕ → ℕ × List ℕ → Type 0
ShowsValue None code kind kind' before after = (code ≡ NO_VERSION) × (kind' ≡ kind) × (after.0 ≡ before.0) × (after.1 ≡ before.1)
ShowsValue (Some v) code kind kind' before after = (kind' ≡ kind_byte v.kind) × HandsOut (Ok v.value) code before after

-- a pair of a clock, as C has it
abbrev pub as_pair : ℕ × ℕ → Pair
as_pair p = record { node = p.0; counter = p.1 }

-- of a clock the caller gets the number of pairs, and the pairs if all of them fit; before and after are the stored
-- number and the buffer
abbrev pub HandsPairs : Pairs → ℕ → ℕ × List Pair → ℕ × List Pair → Type 0
HandsPairs ps code before after = (code ≡ copy_code (map as_pair ps) before.1) × (after.0 ≡ length ps) × (after.1 ≡ copied (map as_pair ps) before.1)

-- the clock of a version, if any
abbrev pub ShowsClock : Option Version → ℕ → ℕ × List Pair → ℕ × List Pair → Type 0
ShowsClock None code before after = (code ≡ NO_VERSION) × (after.0 ≡ before.0) × (after.1 ≡ before.1)
ShowsClock (Some v) code before after = HandsPairs v.clock code before after
