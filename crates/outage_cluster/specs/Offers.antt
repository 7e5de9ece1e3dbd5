-- One step of a delivery.
use Rattle.std.specs.Prelude.{ℕ, ◌+◌, Bool, true, false, List, Option, Some, None}
use Rattle.vclock.specs.Outcome.{Outcome, gives, refuses}
use Rattle.range_store.specs.declared.receipt.Accepted.{Accepted}
use Rattle.hint_store.specs.declared.hint.Fate.TheVariants.{Pending}
use Rattle.hint_store.specs.declared.hint.Hint.{Hint}
use Rattle.hint_store.specs.declared.hint.Kept.{Kept}
use Rattle.outage_cluster.specs.State.{Replica}
use Rattle.outage_cluster.specs.Handoff.{Round, is_known}

-- a hint that is pending
abbrev pub pending_of : Hint → Kept
pending_of h = record { hint = h; fate = Pending }

-- a delivery in progress
abbrev pub round_at : List (List Replica) → List Kept → ℕ → ℕ → Round
round_at replicas hints taken known = record { replicas = replicas; hints = hints; taken = taken; known = known }

-- the delivery after an offer: it was refused, or the owner accepted the version or knew it
abbrev pub after_offer : Option Bool → List (List Replica) → List Kept → ℕ → ℕ → Round
after_offer None replicas hints taken known = round_at replicas hints taken known
after_offer (Some false) replicas hints taken known = round_at replicas hints (taken + 1) known
after_offer (Some true) replicas hints taken known = round_at replicas hints taken (known + 1)

-- the reply of an owner: true if it knew the version, None if it refused it
abbrev pub answer_of : Outcome Accepted (List Replica) → Option Bool
answer_of (gives reply reps) = Some (is_known reply)
answer_of (refuses e) = None
