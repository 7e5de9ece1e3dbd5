-- The reconciliation of two replicas of a range: each runs a whole session on the rows that the other had before.
use Rattle.std.specs.Prelude.{◌≡◌, ◌⊎◌, ℕ, List, [], ◌∷◌, ◌++◌, length, Option, Some, None, Result, Ok, Err}
use Rattle.vclock.specs.Answer.{first_fault}
use Rattle.vclock.specs.Outcome.{gives}
use Rattle.vclock.specs.declared.refusal.Refusal.{Refusal}
use Rattle.vclock.specs.declared.refusal.Refusal.TheVariants.{NoMemory}
use Rattle.range_journal.specs.Journal.{held}
use Rattle.tree_nodes.specs.Nodes.{Node, kept_digest}
use Rattle.snapshot.specs.RowMaps.{RowMap}
use Rattle.sync_session.specs.Differing.{differ}
use Rattle.range_state.specs.declared.«record».Record.{Record}
use Rattle.range_state.specs.declared.state.reconciliation.Reconciled.{Reconciled}
use Rattle.range_state.specs.declared.state.sync.Synced.{Synced}
use Rattle.range_state.specs.State.{State, IsRight}
use Rattle.range_store.specs.Store.{rows_now, dirty_fault}
use Rattle.range_state.specs.Sessions.{standings, crowd_fault, cancel_at}
use Rattle.range_state.specs.Syncs.{HasAskedAll, IsSyncedTo, IsPartWay}
use Rattle.range_state.specs.Trees.{IsSameRange}
use Rattle.range_state.specs.Unions.{union_of}

-- the fault of two ranges that can't begin: one is dirty, or one has no capacity for a session
abbrev pub pair_fault : State → State → Option Refusal
pair_fault a b = first_fault (dirty_fault a.store) (first_fault (dirty_fault b.store) (first_fault (crowd_fault (standings a.records)) (crowd_fault (standings b.records))))

-- A whole session on a partner's rows that took every leaf at which the trees differ: the number of nodes that were
-- asked, and of versions that were accepted. It is finished.
pub record HasCaughtUp (s : State) (seat partner : ℕ) (other : RowMap) (nodes versions : ℕ) (new : State) : Type 0 where
  pub sync : Synced
  pub synced : IsSyncedTo s seat other new sync
  pub session : HasAskedAll s partner other new.records
  pub all : sync.fault ≡ None
  pub asked : nodes ≡ sync.asked
  pub accepted : versions ≡ sync.accepted

-- a session with a leaf that was refused for this cause; it was cancelled, and the leaves before that one stay
pub record HasGivenUp (s : State) (seat partner : ℕ) (other : RowMap) (e : Refusal) (new : State) : Type 0 where
  pub last : State
  pub sync : Synced
  pub synced : IsSyncedTo s seat other last sync
  pub session : HasAskedAll s partner other last.records
  pub cause : sync.fault ≡ Some e
  pub cancelled : cancel_at last (length s.records) ≡ gives tt new

-- a session that ran out of memory midway; it was cancelled, and the leaves that it took stay
pub record HasBrokenOff (s : State) (seat partner : ℕ) (other : RowMap) (new : State) : Type 0 where
  pub last : State
  pub part : IsPartWay s seat partner other last
  pub cancelled : cancel_at last (length s.records) ≡ gives tt new

-- A session that didn't catch up, and the fault: a leaf was refused, or memory ran out, when it was opened or later.
abbrev pub HasStopped : State → ℕ → ℕ → RowMap → Refusal → State → Type 0
HasStopped s seat partner other e new =
    HasGivenUp s seat partner other e new
    ⊎ ((e ≡ NoMemory) × ((new ≡ s) ⊎ HasBrokenOff s seat partner other new))

-- the first of the two sessions stopped, and the second didn't begin; or the first caught up, and the second stopped
abbrev pub HaveStopped : State → ℕ → State → ℕ → ℕ → Refusal → State → State → Type 0
HaveStopped a at_a b at_b seat e new_a new_b =
    (HasStopped a seat at_b (rows_now b.store) e new_a × (new_b ≡ b))
    ⊎ (((nodes : ℕ) × (versions : ℕ) × HasCaughtUp a seat at_b (rows_now b.store) nodes versions new_a) × HasStopped b seat at_a (rows_now a.store) e new_b)

-- the result of the two sessions, and both states afterwards: each session is on the rows that the other replica had at
-- the beginning
abbrev pub Reconciles : State → ℕ → State → ℕ → ℕ → Result Reconciled Refusal → State → State → Type 0
Reconciles a at_a b at_b seat (Ok r) new_a new_b =
    (pair_fault a b ≡ None)
    × HasCaughtUp a seat at_b (rows_now b.store) r.asked_a r.accepted_a new_a
    × HasCaughtUp b seat at_a (rows_now a.store) r.asked_b r.accepted_b new_b
Reconciles a at_a b at_b seat (Err e) new_a new_b =
    ((pair_fault a b ≡ Some e) × (new_a ≡ a) × (new_b ≡ b))
    ⊎ ((pair_fault a b ≡ None) × HaveStopped a at_a b at_b seat e new_a new_b)

-- the newest session of a range asked these nodes, in order
pub record HasAsked (s new : State) (nodes : List Node) : Type 0 where
  pub r : Record
  pub records : new.records ≡ s.records ++ r ∷ []
  pub asked : r.session.asked ≡ nodes

-- each of the two asked the nodes at which their trees differed, in order, and no others; and the numbers are the
-- lengths of these lists
pub record HaveAskedAlike (a b new_a new_b : State) (asked_a asked_b : ℕ) : Type 0 where
  pub first : HasAsked a new_a (differ (rows_now a.store) (rows_now b.store))
  pub second : HasAsked b new_b (differ (rows_now a.store) (rows_now b.store))
  pub count_a : asked_a ≡ length (differ (rows_now a.store) (rows_now b.store))
  pub count_b : asked_b ≡ length (differ (rows_now a.store) (rows_now b.store))

-- both hold, for each key, the maximal versions of all that they held before
abbrev pub HoldBoth : State → State → State → State → Type 0
HoldBoth a b new_a new_b =
    (key : List ℕ)
    → (held new_a.store.entries key ≡ union_of (held a.store.entries key) (held b.store.entries key))
    × (held new_b.store.entries key ≡ union_of (held a.store.entries key) (held b.store.entries key))

-- once both are clean, and nothing else of them has changed, their roots have equal digests
abbrev pub HaveEqualRoots : State → State → Type 0
HaveEqualRoots a b =
    (x y : State) → IsSameRange a x → IsSameRange b y → IsRight x → IsRight y
    → dirty_fault x.store ≡ None → dirty_fault y.store ≡ None → kept_digest x.store.marks 0 ≡ kept_digest y.store.marks 0
