-- The state of a script: the ring, its nodes and their hints, each replica's journal and clean nodes, and the slots.
use Rattle.std.specs.Prelude.{ℕ, length, ◌^◌, ◌==◌, Bool, not, List, [], ◌∷◌, ◌++◌, map, filter, take, replicate, position, slice_get, slice_index_or, slice_set, Option, Some, None, option_map, option_and_then, if◌then◌else◌}
use Rattle.std.specs.List.{list_any, range_with_len}
use Rattle.vclock.specs.declared.format.Format.{Format}
use Rattle.vclock.specs.declared.format.Format.TheVariants.{One}
use Rattle.vclock.specs.declared.refusal.Refusal.TheVariants.{OtherRange}
use Rattle.vclock.specs.Outcome.{Outcome, gives, refuses, through}
use Rattle.admission.specs.Admission.{Admission, fresh_admission}
use Rattle.hint_store.specs.declared.hint.Kept.{Kept}
use Rattle.key_ring.specs.Places.{range_at}
use Rattle.key_ring.specs.Ring.{Places, preference_list}
use Rattle.range_store.specs.Config.{Config}
use Rattle.range_store.specs.Store as range
use Rattle.range_state.specs.Sessions.{standings}
use Rattle.range_state.specs.State.{State, fresh}
use Rattle.sync_session.specs.declared.state.SessionState.{SessionState}

-- a node that keeps a range, with the store of the range: its number, the entries of the journal, and the clean nodes
-- of its tree; and the state of each of its sessions, in the order in which they were opened. The sessions themselves
-- are not kept.
pub record Replica : Type 0 where
  pub node : ℕ
  pub range : range.Store
  pub sessions : List SessionState

-- the replica of a node that has this state of the range
abbrev pub replica_of : ℕ → State → Replica
replica_of n s = record { node = n; range = s.store; sessions = standings s.records }

-- the ring, its format, the nodes that are down, the hints of each node in the order of the ring, and range by range
-- the replicas, in the order of the range's preference list
pub record Cluster : Type 0 where
  pub ring : Places
  pub format : Format
  pub down : List ℕ
  pub hints : List (List Kept)
  pub replicas : List (List Replica)

-- the cluster, and the slots for background work
pub record ClusterState : Type 0 where
  pub cluster : Cluster
  pub slots : Admission

-- the range of that number, with an empty journal and a tree whose nodes are all dirty
abbrev pub empty_range : Config → ℕ → range.Store
empty_range c r = range.fresh (record { format = c.format; bits = c.bits; range = r; limit = c.limit })

-- the replicas of range r: the first nodes of its preference list
abbrev pub replicas_made : Places → Config → ℕ → List Replica
replicas_made ring c r = map (λ n. record { node = n; range = empty_range c r; sessions = [] }) (take ring.copies (preference_list ring.nodes r))

-- a new cluster: each node is up and has no hints; each replica of each range has an empty journal, and no node of its
-- tree is clean
unfoldable pub made : Places → Config → Cluster
made ring c = record { ring = ring; format = c.format; down = []; hints = replicate (length ring.nodes) []; replicas = map (replicas_made ring c) (range_with_len 0 (2 ^ ring.bits)) }

-- a range that may have no state yet: then it has accepted nothing
abbrev pub range_in : Config → Option State → State
range_in c None = fresh c
range_in c (Some s) = s

-- a script begins with a ring of one node, number 1, with one range
abbrev pub first_ring : Places
first_ring = record { bits = 0; nodes = 1 ∷ []; copies = 1 }

abbrev pub first_config : Config
first_config = record { format = One; bits = 0; range = 0; limit = 1000000 }

-- up to 8 slots, and at least 1, by a latency of 50 milliseconds; no slot is lent
abbrev pub first_slots : Admission
first_slots = fresh_admission 1 8 50000

abbrev pub start : ClusterState
start = record { cluster = made first_ring first_config; slots = first_slots }

-- the replicas of a key's range
abbrev pub replicas_of : Cluster → List ℕ → List Replica
replicas_of s key = slice_index_or s.replicas (range_at s.ring.bits key) []

-- the cluster with other replicas of a range
abbrev pub with_range : Cluster → ℕ → List Replica → Cluster
with_range s r reps = record s { replicas = slice_set s.replicas r reps }

-- the cluster with other replicas of a key's range
abbrev pub with_replicas : Cluster → List ℕ → List Replica → Cluster
with_replicas s key reps = with_range s (range_at s.ring.bits key) reps

-- a node's replica, if the node keeps the range
abbrev pub replica_at : ℕ → List Replica → Option Replica
replica_at n [] = None
replica_at n (r ∷ reps) = if r.node == n then Some r else replica_at n reps

-- the store of the range at a node, if the node keeps it
abbrev pub home : ℕ → List Replica → Option range.Store
home n reps = option_map (λ (r : Replica). r.range) (replica_at n reps)

-- the replicas after a change of a node's replica by f
abbrev pub at_node : ℕ → (Replica → Replica) → List Replica → List Replica
at_node n f [] = []
at_node n f (r ∷ reps) = if r.node == n then f r ∷ reps else r ∷ at_node n f reps

-- a replica with another store of the range
abbrev pub keeping : range.Store → Replica → Replica
keeping h r = record { node = r.node; range = h; sessions = r.sessions }

-- the replicas with another store of the range at a node
abbrev pub with_home : ℕ → range.Store → List Replica → List Replica
with_home n h reps = at_node n (keeping h) reps

-- a change of a range's store, as a change of the replica
abbrev pub in_replica : {T : Type 0} → Replica → Outcome T range.Store → Outcome T Replica
in_replica r done = through (λ h. keeping h r) done

-- a call on the store of a range at a node, as a change of the replicas; it is refused if the node does not keep the
-- range
abbrev pub in_home : {T : Type 0} → ℕ → List Replica → (range.Store → Outcome T range.Store) → Option range.Store → Outcome T (List Replica)
in_home n reps call None = refuses OtherRange
in_home n reps call (Some h) = through (λ new. with_home n new reps) (call h)

abbrev pub at_home : {T : Type 0} → ℕ → (range.Store → Outcome T range.Store) → List Replica → Outcome T (List Replica)
at_home n call reps = in_home n reps call (home n reps)

-- the state after a call: a refused call changes nothing
abbrev pub left : {T S : Type 0} → Outcome T S → S → S
left (gives x s) old = s
left (refuses e) old = old

-- a node is on the ring
abbrev pub is_member : Cluster → ℕ → Bool
is_member s n = list_any (λ m. m == n) s.ring.nodes

-- a node is down
abbrev pub is_down : Cluster → ℕ → Bool
is_down s n = list_any (λ m. m == n) s.down

-- the cluster after a node was taken down or up
abbrev pub taken_down : Cluster → ℕ → Cluster
taken_down s n = record s { down = if is_down s n then s.down else s.down ++ n ∷ [] }

abbrev pub brought_up : Cluster → ℕ → Cluster
brought_up s n = record s { down = filter (λ m. not (m == n)) s.down }

-- the hints that a node keeps, if it is on the ring
abbrev pub hints_of : Cluster → ℕ → Option (List Kept)
hints_of s n = option_and_then (slice_get s.hints) (position (λ m. m == n) s.ring.nodes)

-- the list with another element at a place, if the list has the place
abbrev pub set_at : {A : Type 0} → List A → Option ℕ → A → List A
set_at xs None x = xs
set_at xs (Some i) x = slice_set xs i x

-- the cluster with these hints at a node
abbrev pub with_hints : Cluster → ℕ → List Kept → Cluster
with_hints s n hs = record s { hints = set_at s.hints (position (λ m. m == n) s.ring.nodes) hs }
