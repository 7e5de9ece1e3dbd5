-- The kinds of versions.
use Rattle.std.specs.Prelude.{ℕ, List, length, ◌==◌, nat_lt, if◌then◌else◌, Option, Some, None}
use Rattle.vclock.specs.Format.{value_limit}
use Rattle.vclock.specs.declared.format.Format.{Format}
use Rattle.vclock.specs.declared.format.Format.TheVariants.{One, Two}
use Rattle.vclock.specs.declared.refusal.Refusal.{Refusal}
use Rattle.vclock.specs.declared.refusal.Refusal.TheVariants.{BadValue}
use Rattle.version_set.specs.declared.kind.Kind.{Kind}
use Rattle.version_set.specs.declared.kind.Kind.TheVariants.{Live, Tombstone}

-- the byte that represents a kind in texts
abbrev pub kind_byte : Kind → ℕ
kind_byte Live = 0
kind_byte Tombstone = 1

-- the fault of a version with this kind and value: the value is too long; format 1 has no tombstones; in format 2 the
-- value of a tombstone is empty
abbrev pub value_fault : Format → Kind → List ℕ → Option Refusal
value_fault format Live value = if nat_lt (value_limit format) (length value) then Some BadValue else None
value_fault One Tombstone value = Some BadValue
value_fault Two Tombstone value = if length value == 0 then None else Some BadValue
