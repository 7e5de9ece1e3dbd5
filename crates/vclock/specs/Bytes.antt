-- The storage of bytes, and the length of a key.
use Rattle.std.specs.Prelude.{ℕ, ◌≡◌, ◌≤◌, List, length, take, ◌==◌, ◌||◌, nat_lt, if◌then◌else◌, Option, Some, None}
use Rattle.vclock.specs.declared.bytes.Storage.{Storage}
use Rattle.vclock.specs.declared.bytes.Storage.TheVariants.{Short, Shared}
use Rattle.vclock.specs.declared.refusal.Refusal.{Refusal}
use Rattle.vclock.specs.declared.refusal.Refusal.TheVariants.{BadKey}

-- the bytes, without the unused places of the array
abbrev pub kept_bytes : Storage → List ℕ
kept_bytes (Short len bytes) = take len bytes
kept_bytes (Shared block) = block.value.items

abbrev pub IsStored : Storage → Type 0
IsStored (Short len bytes) = (len ≤ 14) × (length bytes ≡ 14)
IsStored (Shared block) = Unit {0}

-- the fault of bytes that are not a key: a key has 1 to 255 bytes
abbrev pub key_fault : List ℕ → Option Refusal
key_fault key = if length key == 0 || nat_lt 255 (length key) then Some BadKey else None
