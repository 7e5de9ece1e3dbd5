-- The state of a range: its store, the records of its sessions, and the moment that it keeps. Its calls on versions are
-- calls of the store.
use Rattle.std.specs.Prelude.{◌≡◌, ℕ, ◌≤◌, List, [], length, take, Any, Contains, Option, None, IfSome}
use Rattle.std.specs.List.{AllByRecursion}
use Rattle.vclock.specs.Outcome.{Outcome, through}
use Rattle.vclock.specs.Clock.{Pairs}
use Rattle.vclock.specs.declared.format.Format.{Format}
use Rattle.version_set.specs.declared.kind.Kind.{Kind}
use Rattle.version_set.specs.declared.version.Version.{Version}
use Rattle.range_journal.specs.declared.journal.Entry.{Entry}
use Rattle.range_journal.specs.declared.journal.Source.{Source}
use Rattle.range_journal.specs.declared.journal.Source.TheVariants.{Partner}
use Rattle.range_journal.specs.Copies.{IsSettled}
use Rattle.row_bytes.specs.Rows.{AreRows}
use Rattle.row_bytes.specs.declared.row.Row.{Row}
use Rattle.tree_nodes.specs.Nodes.{Node, tree_depth}
use Rattle.hash_tree.specs.Texts.{leaf_text}
use Rattle.snapshot.specs.RowMaps.{RowMap}
use Rattle.range_tree.specs.Trees.{IsRangeTree}
use Rattle.range_store.specs.declared.receipt.Accepted.{Accepted}
use Rattle.range_store.specs.declared.context_test.ContextTest.{ContextTest}
use Rattle.range_store.specs.Config.{Config}
use Rattle.range_store.specs.Store.{Store, IsSound}
use Rattle.range_store.specs.Store as stores
use Rattle.range_store.specs.Rows.{rows_of}
use Rattle.range_store.specs.ContextTests as tests
use Rattle.sync_session.specs.Walks.{Walk, TakenText}
use Rattle.range_state.specs.declared.«record».Record.{Record}
use Rattle.range_state.specs.declared.moment.Moment.{Moment}
use Rattle.range_state.specs.Records.{IsKept, AreNumbered, open_count}

-- the store, the records of the sessions, in the order of their numbers, the kept moment, if any, the number of entries
-- at the last whole moment before it, the number of the next session, and a number of first entries without a partner's
pub record State : Type 0 where
  pub store : Store
  pub records : List Record
  pub moment : Option Moment
  pub whole_before : ℕ
  pub next_session : ℕ
  pub settled : ℕ

-- a range that has accepted nothing
abbrev pub fresh : Config → State
fresh c = record { store = stores.fresh c; records = []; moment = None; whole_before = 0; next_session = 0; settled = 0 }

-- the state with another store
abbrev pub with_store : State → Store → State
with_store s t = record s { store = t }

-- a version that was made elsewhere is known, or becomes an entry
abbrev pub accept : State → ℕ → Source → List ℕ → Version → Outcome Accepted State
accept s seat source key v = through (with_store s) (stores.accept s.store seat source key v)

-- a value that is put at a node becomes an entry
abbrev pub put : State → ℕ → ℕ → List ℕ → Pairs → Kind → List ℕ → Outcome Entry State
put s seat at key context kind value = through (with_store s) (stores.put s.store seat at key context kind value)

-- a put with this test of its context
abbrev pub put_by : ContextTest → State → ℕ → ℕ → List ℕ → Pairs → Kind → List ℕ → Outcome Entry State
put_by test s seat at key context kind value = through (with_store s) (tests.put_by test s.store seat at key context kind value)

-- the digest of a text is installed at a node
abbrev pub install : State → Node → List ℕ → Outcome (Unit {0}) State
install s node text = through (with_store s) (stores.install s.store node text)

-- a leaf's text, in a tree of the format, that spells some rows; one of them has the entry's key and version
pub record IsLeafWith (format : Format) (e : Entry) (t : TakenText) : Type 0 where
  pub leaf : t.node.depth ≡ tree_depth format
  pub rows : List Row
  pub are : AreRows format rows
  pub text : t.text ≡ leaf_text format rows
  pub has : Any (λ (r : Row). (r.key ≡ e.key) × Contains r.versions e.version) rows

-- a session took a leaf's text with the entry's version, in the format of the session's snapshot
abbrev pub HasTaken : Walk → Entry → Type 0
HasTaken w e = Any (IsLeafWith w.own.format e) w.taken

-- some session took a leaf's text with the entry's version
abbrev pub IsFromPartner : List Record → Entry → Type 0
IsFromPartner records e = Any (λ (r : Record). HasTaken r.session e) records

-- the rows that the first entries made
abbrev pub rows_at : Store → ℕ → RowMap
rows_at s front = record { format = s.config.format; bits = s.config.bits; range = s.config.range; rows = rows_of (take front s.entries) }

-- a moment of a store: the rows that its first entries made, and each clean node has the digest of its text for them
pub record IsMomentOf (s : Store) (m : Moment) : Type 0 where
  pub front : m.front ≤ length s.entries
  pub rows : m.tree.map ≡ rows_at s m.front
  pub right : IsRangeTree m.tree

-- the facts of each state: its store is sound, each record is valid for the entries, there are at most 1,024 records,
-- at most 64 of their sessions are open, their numbers ascend and are below the next one, each version from a partner
-- was in a text that a session took, the settled first entries include none from a partner, and the moment is one of
-- the store's
pub record IsRight (s : State) : Type 0 where
  pub store : IsSound s.store
  pub records : AllByRecursion (IsKept s.store.config s.store.entries) s.records
  pub few : length s.records ≤ 1024
  pub few_open : open_count s.records ≤ 64
  pub numbers : AreNumbered s.next_session s.records
  pub partners : AllByRecursion (λ (e : Entry). e.source ≡ Partner → IsFromPartner s.records e) s.store.entries
  pub settled : IsSettled s.settled s.store.entries
  pub moment : IfSome s.moment (IsMomentOf s.store)
