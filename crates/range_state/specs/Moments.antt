-- Moments of a range: the rows that its first entries made, and the digests of their tree (the Dynamo paper,
-- section 4.7).
use Rattle.std.specs.Prelude.{◌≡◌, ℕ, ◌==◌, ◌+◌, ◌++◌, List, [], ◌∷◌, length, Option, Some, None, if◌then◌else◌}
use Rattle.vclock.specs.Outcome.{Outcome, gives, refuses, through, ◌>>◌}
use Rattle.vclock.specs.declared.refusal.Refusal.{Refusal}
use Rattle.vclock.specs.declared.refusal.Refusal.TheVariants.{Stale, Dirty}
use Rattle.rehash.specs.Jobs.{NodeText}
use Rattle.tree_nodes.specs.Nodes.{Node, dirty_count}
use Rattle.range_tree.specs.Trees.{RangeTree}
use Rattle.range_tree.specs.Jobs as trees
use Rattle.range_store.specs.Store.{Store, rows_now, dirty_fault, tree_in, with_tree}
use Rattle.walk_messages.specs.declared.message.Offer.{Offer}
use Rattle.snapshot.specs.RowMaps.{RowMap}
use Rattle.sync_session.specs.Steps.{started}
use Rattle.range_state.specs.declared.moment.Moment.{Moment}
use Rattle.range_state.specs.declared.local_rows.LocalRows.{LocalRows}
use Rattle.range_state.specs.declared.local_rows.LocalRows.TheVariants as local_rows
use Rattle.range_state.specs.State.{State, rows_at}
use Rattle.range_state.specs.Sessions.{foreign_fault, standings, crowd_fault, open_session}

-- the number of a moment's nodes without a digest; 0 without a moment
abbrev pub dirty_in : Option Moment → ℕ
dirty_in None = 0
dirty_in (Some m) = dirty_count m.tree.marks

-- the number of entries at the last whole moment: the kept one, if each of its nodes has a digest
abbrev pub whole_from : Option Moment → ℕ → ℕ
whole_from None before = before
whole_from (Some m) before = if dirty_count m.tree.marks == 0 then m.front else before

abbrev pub last_whole : State → ℕ
last_whole s = whole_from s.moment s.whole_before

-- the state that keeps the rows now as its moment
abbrev pub with_moment : State → State
with_moment s = record s { moment = Some (record { tree = tree_in s.store; front = length s.store.entries }); whole_before = last_whole s }

-- the state that keeps no moment
abbrev pub without_moment : State → State
without_moment s = record s { moment = None; whole_before = last_whole s }

-- jobs of a moment's dirty nodes whose children are clean: of at most the first `most`; no job without a moment
abbrev pub AreMomentJobs : Option Moment → ℕ → List NodeText → Type 0
AreMomentJobs None most jobs = jobs ≡ []
AreMomentJobs (Some m) most jobs = trees.AreJobs m.tree most jobs

-- the store with the digest of a text at a node, if that is the node's text now
abbrev pub with_digest : Store → Node → List ℕ → Store
with_digest s node text = if trees.is_current (tree_in s) node text then with_tree s (trees.installed (tree_in s) node text) else s

-- the state with another tree of its moment, and with the digest of a text if its node has that text now
abbrev pub with_hashed : State → Node → List ℕ → Moment → RangeTree → State
with_hashed s node text m tree = record s { store = with_digest s.store node text; moment = Some (record m { tree = tree }) }

-- the digest of a text is installed at a node of a moment
abbrev pub install_in : Option Moment → State → Node → List ℕ → Outcome (Unit {0}) State
install_in None s node text = refuses Stale
install_in (Some m) s node text = through (with_hashed s node text m) (trees.install m.tree node text)

abbrev pub install_moment : State → Node → List ℕ → Outcome (Unit {0}) State
install_moment s node text = install_in s.moment s node text

-- the fault of a moment that can't be offered: it is missing, or some node has no digest
abbrev pub moment_fault : Option Moment → Option Refusal
moment_fault None = Some Dirty
moment_fault (Some m) = trees.dirty_fault m.tree

-- the number of entries that the journal had at a moment
abbrev pub front_of : Option Moment → ℕ
front_of None = 0
front_of (Some m) = m.front

-- the state with one more record: a session that compares the rows of the first entries with the rows under a partner's
-- root
abbrev pub opened_at : State → ℕ → ℕ → List ℕ → State
opened_at s front partner root = record s { records = s.records ++ (record { number = s.next_session; partner = partner; session = started (rows_at s.store front) root }) ∷ []; next_session = s.next_session + 1 }

-- the number of a new session at the moment with a partner's offer, and the state with its record
abbrev pub open_at_moment : State → ℕ → Offer → Outcome ℕ State
open_at_moment s partner offer = do
  foreign_fault s.store.config offer
  crowd_fault (standings s.records)
  moment_fault s.moment
  gives s.next_session (opened_at s (front_of s.moment) partner offer.root)

-- ---- the rows now, or the moment's

-- the fault of rows to show to a partner: some node has no digest
abbrev pub shown_fault : LocalRows → State → Option Refusal
shown_fault local_rows.Now s = dirty_fault s.store
shown_fault local_rows.Moment s = moment_fault s.moment

abbrev pub shown_rows : LocalRows → State → RowMap
shown_rows local_rows.Now s = rows_now s.store
shown_rows local_rows.Moment s = rows_at s.store (front_of s.moment)

-- a session that compares these rows with a partner's is opened
abbrev pub opening : LocalRows → State → ℕ → Offer → Outcome ℕ State
opening local_rows.Now s partner offer = open_session s partner offer
opening local_rows.Moment s partner offer = open_at_moment s partner offer
