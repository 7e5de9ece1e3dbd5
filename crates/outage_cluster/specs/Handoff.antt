-- Hints in a script, the nodes that keep them, and their delivery: section 4.6 of the Dynamo paper.
use Rattle.std.specs.Prelude.{ℕ, ◌+◌, ◌-◌, Bool, true, false, not, ◌&&◌, nat_eq, slice_index_or, slice_set, List, [], length, map, filter, find, fold, drop, if◌then◌else◌, Option, Some, None}
use Rattle.std.specs.List.{list_any}
use Rattle.vclock.specs.Outcome.{Outcome, gives, refuses}
use Rattle.vclock.specs.declared.refusal.Refusal.TheVariants.{BadRing}
use Rattle.key_ring.specs.Places.{range_at}
use Rattle.key_ring.specs.Ring.{preference_list}
use Rattle.range_journal.specs.declared.journal.Entry.{Entry}
use Rattle.range_journal.specs.declared.journal.Source.TheVariants as Sources
use Rattle.range_store.specs.Store as range
use Rattle.range_store.specs.declared.receipt.Accepted.{Accepted}
use Rattle.range_store.specs.declared.receipt.Accepted.TheVariants.{Taken, Known}
use Rattle.hint_store.specs.Hints.{is_pending, pending_count, keep, confirmed, delivery_by}
use Rattle.hint_store.specs.declared.hint.Hint.{Hint}
use Rattle.hint_store.specs.declared.hint.Kept.{Kept}
use Rattle.outage_cluster.specs.declared.answer.CommandAnswer.{CommandAnswer}
use Rattle.outage_cluster.specs.declared.answer.CommandAnswer.TheVariants as Answers
use Rattle.outage_cluster.specs.State.{Cluster, Replica, at_home, left, is_down, hints_of, with_hints}

-- the owners of a put's hints: the nodes among these replicas that are to have one, in order
abbrev pub owners_of : (ℕ → Bool) → List Replica → List ℕ
owners_of gets_hint reps = filter gets_hint (map (λ r. r.node) reps)

-- the node that keeps the hints of a range: the first one that is up after the range's replicas in its preference list
abbrev pub carrier_of : Cluster → ℕ → Option ℕ
carrier_of s r = find (λ n. not (is_down s n)) (drop s.ring.copies (preference_list s.ring.nodes r))

-- the hints with one more for an owner, if one can be kept
abbrev pub kept_for : Entry → List Kept → ℕ → List Kept
kept_for e hs owner = left (keep hs owner e.key e.version) hs

-- the hints with one more for each owner
abbrev pub kept_all : Entry → List ℕ → List Kept → List Kept
kept_all e owners hs = fold (kept_for e) hs owners

-- the hints of a put at the node that carries them: the number that are kept, and the cluster with them
abbrev pub hinted_at : Entry → List ℕ → Cluster → ℕ → Option (List Kept) → ℕ × Cluster
hinted_at e owners s carrier None = (0, s)
hinted_at e owners s carrier (Some hs) = (length (kept_all e owners hs) - length hs, with_hints s carrier (kept_all e owners hs))

-- the hints of a put at their carrier, if any
abbrev pub hinted : Entry → List ℕ → Cluster → Option ℕ → ℕ × Cluster
hinted e owners s None = (0, s)
hinted e owners s (Some carrier) = hinted_at e owners s carrier (hints_of s carrier)

-- a hint offered to its owner, if the owner is among these replicas
unfoldable pub asked : Hint → List Replica → Outcome Accepted (List Replica)
asked hint reps = at_home hint.owner (λ h. range.accept h 0 Sources.Hint hint.key hint.version) reps

-- a hint offered to its owner in a ring of 2^bits ranges
abbrev pub asked_in : ℕ → List (List Replica) → Hint → Outcome Accepted (List Replica)
asked_in bits replicas hint = asked hint (slice_index_or replicas (range_at bits hint.key) [])

-- a delivery in progress: the replicas and the carrier's hints now, and the numbers of hints that were accepted and
-- known
pub record Round : Type 0 where
  pub replicas : List (List Replica)
  pub hints : List Kept
  pub taken : ℕ
  pub known : ℕ

-- an owner knew a version
abbrev pub is_known : Accepted → Bool
is_known Known = true
is_known (Taken e) = false

-- the delivery after an owner accepted a hint or knew it, with these replicas of the range
abbrev pub round_after : ℕ → Round → Hint → Bool → List Replica → Round
round_after bits r h known reps = record {
  replicas = slice_set r.replicas (range_at bits h.key) reps;
  hints = confirmed r.hints h.id (delivery_by h known);
  taken = if known then r.taken else r.taken + 1;
  known = if known then r.known + 1 else r.known;
}

-- the delivery after a hint was offered to its owner: one that is refused stays pending
abbrev pub offered_to : ℕ → Round → Hint → Outcome Accepted (List Replica) → Round
offered_to bits r h (refuses e) = r
offered_to bits r h (gives reply reps) = round_after bits r h (is_known reply) reps

-- a hint is offered: it is pending, and its owner is up
abbrev pub is_offered : List ℕ → Kept → Bool
is_offered up k = is_pending k && list_any (nat_eq k.hint.owner) up

abbrev pub offer_one : List ℕ → ℕ → Round → Kept → Round
offer_one up bits r k = if is_offered up k then offered_to bits r k.hint (asked_in bits r.replicas k.hint) else r

-- the delivery before the first hint
abbrev pub first_round : List (List Replica) → List Kept → Round
first_round replicas hs = record { replicas = replicas; hints = hs; taken = 0; known = 0 }

-- the nodes that are up, in the order of the ring
abbrev pub up_nodes : Cluster → List ℕ
up_nodes s = filter (λ n. not (is_down s n)) s.ring.nodes

-- the hints are offered in order
abbrev pub round_of : Cluster → List Kept → Round
round_of s hs = fold (offer_one (up_nodes s) s.ring.bits) (first_round s.replicas hs) hs

-- the answer of a finished delivery, and the cluster after it
abbrev pub delivered : Cluster → ℕ → Round → Outcome CommandAnswer Cluster
delivered s n r = gives (Answers.Deliver r.taken r.known (pending_count r.hints)) (with_hints (record s { replicas = r.replicas }) n r.hints)

-- a delivery of the hints that a node keeps; it is refused if the node is not on the ring
abbrev pub deliver_at : Cluster → ℕ → Option (List Kept) → Outcome CommandAnswer Cluster
deliver_at s n None = refuses BadRing
deliver_at s n (Some hs) = delivered s n (round_of s hs)
