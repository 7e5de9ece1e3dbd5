-- A whole session with an honest partner, as a fold over the leaves at which the two trees differ.
use Rattle.std.specs.Prelude.{◌≡◌, ℕ, ◌+◌, ◌-◌, nat_eq, List, [], ◌∷◌, ◌++◌, length, Option, Some, None}
use Rattle.std.specs.List.{filter}
use Rattle.vclock.specs.declared.refusal.Refusal.{Refusal}
use Rattle.vclock.specs.declared.format.Format.{Format}
use Rattle.version_set.specs.declared.version.Version.{Version}
use Rattle.hash_tree.specs.Leaves.{rows_in_leaf}
use Rattle.tree_nodes.specs.Nodes.{Node, tree_depth}
use Rattle.snapshot.specs.RowMaps.{RowMap, leaf_in, root_of}
use Rattle.sync_session.specs.Differing.{differ, nodes_of, IsHonest}
use Rattle.sync_session.specs.Steps.{state_by}
use Rattle.sync_session.specs.declared.state.SessionState.{SessionState}
use Rattle.sync_session.specs.declared.state.SessionState.TheVariants.{Open, Finished}
use Rattle.range_store.specs.Config.{Config}
use Rattle.range_state.specs.declared.«record».Record.{Record}
use Rattle.range_state.specs.declared.state.sync.Synced.{Synced}
use Rattle.range_state.specs.State.{State}
use Rattle.range_store.specs.Store.{Store, rows_now}
use Rattle.range_state.specs.Sessions.{standings, taken_in, leaf_fault}
use Rattle.range_store.specs.Offers.{offers_of}

-- rows that belong to a range: they have its format, the bits of its ring and its number
pub record IsOfRange (c : Config) (m : RowMap) : Type 0 where
  pub format : m.format ≡ c.format
  pub bits : m.bits ≡ c.bits
  pub range : m.range ≡ c.range

-- the leaves among some nodes, in order
abbrev pub leaves_in : Format → List Node → List Node
leaves_in format nodes = filter (λ n. nat_eq n.depth (tree_depth format)) nodes

-- the leaves at which two trees differ, in order
abbrev pub leaves_between : RowMap → RowMap → List Node
leaves_between own other = leaves_in own.format (differ own other)

-- the versions of the partner's rows in a leaf, with their keys
abbrev pub offers_at : RowMap → Node → List (List ℕ × Version)
offers_at other n = offers_of (rows_in_leaf (leaf_in other) n.index other.rows)

-- the progress of a session: the store at that point, the number of versions that were already known, and the refusal
-- of a leaf, if any
pub record Progress : Type 0 where
  pub store : Store
  pub known : ℕ
  pub fault : Option Refusal

-- the number of these versions that don't become entries
abbrev pub known_in : Store → ℕ → List (List ℕ × Version) → ℕ
known_in s seat offers = (length s.entries + length offers) - length (taken_in s seat offers).entries

-- a refused leaf is the end, otherwise there is more
abbrev pub unless_refused : Option Refusal → Store → ℕ → Progress → Progress
unless_refused None s known more = more
unless_refused (Some e) s known more = record { store = s; known = known; fault = Some e }

-- the partner's leaves are taken one by one, each completely or not at all, until one is refused
abbrev pub taken_leaves : Store → ℕ → RowMap → ℕ → List Node → Progress
taken_leaves s seat other known [] = record { store = s; known = known; fault = None }
taken_leaves s seat other known (n ∷ leaves) =
    unless_refused (leaf_fault s seat (offers_at other n)) s known
    (taken_leaves (taken_in s seat (offers_at other n)) seat other (known + known_in s seat (offers_at other n)) leaves)

-- a whole session: the partner's leaves at which the trees differ are taken
abbrev pub synced : Store → ℕ → RowMap → Progress
synced s seat other = taken_leaves s seat other 0 (leaves_between (rows_now s) other)

-- a session is finished, unless a leaf was refused
abbrev pub ended : Option Refusal → SessionState
ended None = Finished
ended (Some e) = Open

-- One record more, of the next number: a session of the rows now with a partner that has these rows. Each text that it
-- took is the partner's; the nodes whose texts it took are the first ones that it asked, and the others are
-- outstanding.
pub record HasOneMore (s : State) (partner : ℕ) (other : RowMap) (new : List Record) : Type 0 where
  pub r : Record
  pub records : new ≡ s.records ++ r ∷ []
  pub number_is : r.number ≡ s.next_session
  pub partner_is : r.partner ≡ partner
  pub own : r.session.own ≡ rows_now s.store
  pub root : r.session.root ≡ root_of other
  pub texts : IsHonest r.session other
  pub turn : r.session.asked ≡ nodes_of r.session.taken ++ r.session.outstanding
  pub stands : r.session.state ≡ state_by r.session.outstanding

-- one record more, which asked each node at which the trees differ, in order
abbrev pub HasAskedAll : State → ℕ → RowMap → List Record → Type 0
HasAskedAll s partner other new = (more : HasOneMore s partner other new) × (more.r.session.asked ≡ differ (rows_now s.store) other)

-- The state after a whole session, and its report: the partner's leaves at which the trees differ were taken, there is
-- one more session, and each node at which the trees differ was asked.
pub record IsSyncedTo (s : State) (seat : ℕ) (other : RowMap) (new : State) (a : Synced) : Type 0 where
  pub store : new.store ≡ (synced s.store seat other).store
  pub sessions : standings new.records ≡ standings s.records ++ ended (synced s.store seat other).fault ∷ []
  pub next : new.next_session ≡ s.next_session + 1
  pub accepted : length s.store.entries + a.accepted ≡ length new.store.entries
  pub known : a.known ≡ (synced s.store seat other).known
  pub asked : a.asked ≡ length (differ (rows_now s.store) other)
  pub fault : a.fault ≡ (synced s.store seat other).fault

-- The state of a session that ran out of memory midway: it has taken the first leaves at which the trees differ, each
-- of them completely.
pub record IsPartWay (s : State) (seat partner : ℕ) (other : RowMap) (new : State) : Type 0 where
  pub leaves : List Node
  pub rest : List Node
  pub first : leaves_between (rows_now s.store) other ≡ leaves ++ rest
  pub fits : (taken_leaves s.store seat other 0 leaves).fault ≡ None
  pub store : new.store ≡ (taken_leaves s.store seat other 0 leaves).store
  pub session : HasOneMore s partner other new.records
  pub next : new.next_session ≡ s.next_session + 1

-- the first of some nodes, if any
abbrev pub IsFirstOf : List Node → Option Node → Type 0
IsFirstOf nodes None = nodes ≡ []
IsFirstOf nodes (Some n) = (rest : List Node) × (nodes ≡ n ∷ rest)
