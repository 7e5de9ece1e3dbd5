-- The range and the leaf of a key, for C.
use Rattle.std.specs.Prelude.{◌≡◌, ℕ, nat_le, List, Option, Some, None, Result, Ok, Err, if◌then◌else◌}
use Rattle.vclock.specs.Bytes.{key_fault}
use Rattle.vclock.specs.declared.format.Format.{Format}
use Rattle.vclock.specs.declared.refusal.Refusal.{Refusal}
use Rattle.vclock.specs.declared.refusal.Refusal.TheVariants.{BadRing}
use Rattle.key_ring.specs.Places.{range_at, leaf_at}
use Rattle.c_calls.specs.declared.spots.Spot.{Spot}

-- the range and the leaf of a key, unless there is a cause to refuse it
abbrev pub spot_unless : Option Refusal → Format → ℕ → List ℕ → Result Spot Refusal
spot_unless None format bits key = Ok (record { range = range_at bits key; leaf = leaf_at format bits key })
spot_unless (Some e) format bits key = Err e

-- a ring has at most 8 bits, and its format is known
abbrev pub spot_of : Option Format → ℕ → List ℕ → Result Spot Refusal
spot_of None bits key = Err BadRing
spot_of (Some format) bits key = if nat_le bits 8 then spot_unless (key_fault key) format bits key else Err BadRing

-- the caller gets the range and the leaf, unless they were refused
abbrev pub TellsSpot : Result Spot Refusal → Spot → Spot → Type 0
TellsSpot (Ok spot) old new = new ≡ spot
TellsSpot (Err e) old new = new ≡ old
