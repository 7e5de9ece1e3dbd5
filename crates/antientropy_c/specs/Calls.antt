-- The effect of a call on the replica of a handle.
use Rattle.std.specs.Prelude.{◌≡◌, ℕ, Bool}
use Rattle.range_state.specs.State.{State}
use Rattle.antientropy_c.specs.declared.replica.Replica.{Replica}
use Rattle.antientropy_c.specs.declared.replica_share.ReplicaShare.{ReplicaShare}
use Rattle.c_calls.specs.Frame.{OnHeld}
use Rattle.c_calls.specs.Kept.{KeptState}

-- a call on a handle, by its flag and the value in it
unfoldable pub CallsOn : {S : Type 0} → ℕ → Bool × S → Bool × S → Type 0 → (S → S → Type 0) → Type 0
CallsOn code old new Same Right = OnHeld old.0 new.0 code Same (Right old.1 new.1)

abbrev pub replica_in : Replica → Bool × KeptState
replica_in h = (h.held, h.kept)

-- a call on a replica, by its state and the numbers of its entries
abbrev pub CallsKept : ℕ → Replica → Replica → Type 0 → (KeptState → KeptState → Type 0) → Type 0
CallsKept code old new Same Right = CallsOn code (replica_in old) (replica_in new) Same Right

-- a call on the state in a replica, that leaves the numbers of its entries unchanged
unfoldable pub CallsOnState : ℕ → Bool × KeptState → Bool × KeptState → Type 0 → (State → State → Type 0) → Type 0
CallsOnState code old new Same Right = OnHeld old.0 new.0 code Same
    ((new.1.first ≡ old.1.first) × (new.1.renewed ≡ old.1.renewed) × Right old.1.state new.1.state)

abbrev pub Calls : ℕ → Replica → Replica → Type 0 → (State → State → Type 0) → Type 0
Calls code old new Same Right = CallsOnState code (replica_in old) (replica_in new) Same Right

-- a call that reads a value that a handle shares, by the handle's flag and the value
unfoldable pub ReadsOn : {H S : Type 0} → ℕ → H → H → Bool → S → Type 0 → (S → Type 0) → Type 0
ReadsOn code old new held s Same Right = (new ≡ old) × OnHeld held held code Same (Right s)

-- a call that reads a replica, by its state and the numbers of its entries
abbrev pub ReadsKept : ℕ → ReplicaShare → ReplicaShare → Type 0 → (KeptState → Type 0) → Type 0
ReadsKept code old new Same Right = ReadsOn code old new old.held old.kept Same Right

-- a call that reads the state in a replica
abbrev pub ReadsState : ℕ → ReplicaShare → ReplicaShare → Type 0 → (State → Type 0) → Type 0
ReadsState code old new Same Right = ReadsOn code old new old.held old.kept.state Same Right
