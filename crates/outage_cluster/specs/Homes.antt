-- The place of a node's replica among the replicas of a range.
use Rattle.std.specs.Prelude.{◌≡◌, ℕ, ◌<◌, length, List, [], slice_index_or, slice_set, Some}
use Rattle.std.specs.List.{AllByRecursion}
use Rattle.snapshot.specs.RowMaps.{RowMap}
use Rattle.range_store.specs.Config.{Config}
use Rattle.range_store.specs.Store as range
use Rattle.outage_cluster.specs.declared.home.Home.{Home}
use Rattle.outage_cluster.specs.State.{Cluster, Replica, keeping, replica_at, home, at_node, with_home}
use Rattle.outage_cluster.specs.Syncs.{synced_with}

-- replicas of one range
abbrev pub AreOf : Config → List Replica → Type 0
AreOf c reps = AllByRecursion (λ (r : Replica). r.range.config ≡ c) reps

-- the node's replica is at place i
pub record IsHome (n : ℕ) (reps : List Replica) (i : ℕ) : Type 0 where
  pub within : i < length reps
  pub node : (d : Replica) → (slice_index_or reps i d).node ≡ n
  pub is : (d : Replica) → replica_at n reps ≡ Some (slice_index_or reps i d)
  pub holds : (d : Replica) → home n reps ≡ Some (slice_index_or reps i d).range
  pub keeps : (h : range.Store) (d : Replica) → with_home n h reps ≡ slice_set reps i (keeping h (slice_index_or reps i d))
  pub syncs : (other : RowMap) (d : Replica) → at_node n (synced_with other) reps ≡ slice_set reps i (synced_with other (slice_index_or reps i d))

-- the node's replica is at the place that a home names
abbrev pub IsHomeIn : Cluster → Home → Type 0
IsHomeIn s h = (h.range < length s.replicas) × IsHome h.node (slice_index_or s.replicas h.range []) h.place

-- the home of a node's replica of range r
abbrev pub IsHomeOf : Cluster → ℕ → ℕ → Home → Type 0
IsHomeOf s n r h = (h.node ≡ n) × (h.range ≡ r) × IsHomeIn s h
