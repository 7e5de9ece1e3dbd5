-- A version that is held for a key, with its kind, clock and value at once, for C.
use Rattle.std.specs.Prelude.{◌≡◌, ℕ, ◌==◌, List, length, map, Option, Some, None, if◌then◌else◌}
use Rattle.version_set.specs.Kind.{kind_byte}
use Rattle.version_set.specs.declared.version.Version.{Version}
use Rattle.c_calls.specs.Hands.{copied, copy_code}
use Rattle.c_calls.specs.Numbers.{NO_VERSION}
use Rattle.c_calls.specs.Versions.{as_pair}
use Rattle.c_calls.specs.declared.pair.Pair.{Pair}
use Rattle.c_calls.specs.declared.readings.Reading.{Reading}

-- the first number that isn't 0
abbrev pub first_code : ℕ → ℕ → ℕ
first_code a b = if a == 0 then b else a

-- A version, with the number of versions of its key: the pairs and the value are each copied if they fit. Before and
-- after are the buffers.
abbrev pub ReadsVersion : Option Version → ℕ → ℕ → Reading → Reading → List Pair × List ℕ → List Pair × List ℕ → Type 0
ReadsVersion None count code old new before after = (code ≡ NO_VERSION) × (new ≡ old) × (after.0 ≡ before.0) × (after.1 ≡ before.1)
ReadsVersion (Some v) count code old new before after =
    (new ≡ record { versions = count; pairs = length v.clock; bytes = length v.value; kind = kind_byte v.kind })
    × (after.0 ≡ copied (map as_pair v.clock) before.0)
    × (after.1 ≡ copied v.value before.1)
    × (code ≡ first_code (copy_code (map as_pair v.clock) before.0) (copy_code v.value before.1))
