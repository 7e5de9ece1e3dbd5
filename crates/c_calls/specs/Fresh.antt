-- A replica that has accepted nothing.
use Rattle.std.specs.Prelude.{◌≡◌, Option, Some, None}
use Rattle.vclock.specs.declared.refusal.Refusal.{Refusal}
use Rattle.vclock.specs.declared.refusal.Refusal.TheVariants.{BadRing}
use Rattle.range_store.specs.Config.{Config}
use Rattle.range_state.specs.State.{fresh}
use Rattle.c_calls.specs.Kept.{KeptState, numbered}

-- the fault of numbers that are not a range's
abbrev pub config_fault : Option Config → Option Refusal
config_fault (Some c) = None
config_fault None = Some BadRing

-- the state of a range that has accepted nothing; its entries are numbered from 0
abbrev pub IsFresh : Option Config → KeptState → Type 0
IsFresh (Some c) k = k ≡ numbered (fresh c)
IsFresh None k = ⊥
