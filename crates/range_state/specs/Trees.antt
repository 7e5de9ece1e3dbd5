-- A range with a rehashed tree (the Dynamo paper, section 4.7).
use Rattle.std.specs.Prelude.{◌≡◌, ℕ, Result}
use Rattle.vclock.specs.declared.refusal.Refusal.{Refusal}
use Rattle.range_store.specs.Trees as stores
use Rattle.range_state.specs.State.{State, with_store}

-- the state with every node clean
abbrev pub rehashed : State → State
rehashed s = with_store s (stores.rehashed s.store)

-- only the digests of nodes differ, and no node lost its digest
abbrev pub IsSameRange : State → State → Type 0
IsSameRange s t = stores.IsSameRange s.store t.store × (t ≡ with_store s t.store)

-- the first `most` of the dirty nodes whose children are clean, or all if there are fewer, are hashed, and nothing else
-- changes; the result is the number of nodes that are still dirty
abbrev pub HashesSome : Result ℕ Refusal → ℕ → State → State → Type 0
HashesSome r most s t = stores.HashesSome r most s.store t.store × (t ≡ with_store s t.store)
