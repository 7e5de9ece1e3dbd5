-- The outcome of a hint at its owner.
use Rattle.std.specs.Prelude.{ℕ, Bool, true, false, Option, Some, None}
use Rattle.ring_node.specs.declared.delivery.HintOutcome.{HintOutcome}
use Rattle.ring_node.specs.declared.delivery.HintOutcome.TheVariants.{Taken, Known, Refused}

-- the number of entries made by it
abbrev pub taken_count : HintOutcome → ℕ
taken_count Taken = 1
taken_count Known = 0
taken_count Refused = 0

-- the number of versions known by it
abbrev pub known_count : HintOutcome → ℕ
known_count Taken = 0
known_count Known = 1
known_count Refused = 0

-- the owner knew the version, if it did not refuse it
abbrev pub was_known : HintOutcome → Option Bool
was_known Taken = Some false
was_known Known = Some true
was_known Refused = None
