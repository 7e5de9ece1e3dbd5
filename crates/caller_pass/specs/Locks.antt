-- The range that a lock keeps, and the changes that its calls make to it and to the pass that they are lent.
use Rattle.std.specs.Prelude.{◌≡◌, ℕ, ◌<◌, Bool, ◌&&◌, not, nat_lt, List, [], ◌∷◌, length, Option, Some, None, Result, Ok, Err, MatchOption, bytes_eq, if◌then◌else◌}
use Rattle.std.specs.List.{AllByRecursion}
use Rattle.vclock.specs.Clock.{Pairs}
use Rattle.vclock.specs.Outcome.{Outcome, gives, ◌>>=◌, ◌>>◌}
use Rattle.vclock.specs.declared.refusal.Refusal.{Refusal}
use Rattle.vclock.specs.declared.refusal.Refusal.TheVariants.{Behind}
use Rattle.version_set.specs.Version.{covered}
use Rattle.version_set.specs.declared.kind.Kind.{Kind}
use Rattle.version_set.specs.declared.version.Version.{Version}
use Rattle.range_journal.specs.declared.journal.Entry.{Entry}
use Rattle.range_journal.specs.declared.journal.Source.{Source}
use Rattle.range_journal.specs.Journal.{held}
use Rattle.tree_nodes.specs.Nodes.{Node}
use Rattle.sync_session.specs.Walks.{TakenText}
use Rattle.range_store.specs.declared.receipt.Accepted.{Accepted}
use Rattle.range_store.specs.declared.receipt.Accepted.TheVariants.{Taken, Known}
use Rattle.range_state.specs.declared.event.AnswerTaken.{AnswerTaken}
use Rattle.range_state.specs.declared.event.AnswerCounted.{AnswerCounted}
use Rattle.range_store.specs.declared.context_test.ContextTest.{ContextTest}
use Rattle.range_store.specs.declared.context_test.ContextTest.TheVariants.{Fresh, Read}
use Rattle.range_state.specs.Records.{record_of}
use Rattle.range_state.specs.State.{State, IsRight, put_by, accept}
use Rattle.range_state.specs.Sessions.{TakesAnswer}
use Rattle.range_state.specs.Syncs.{IsFirstOf}
use Rattle.range_state.specs.Receipts.{count_of}
use Rattle.caller_pass.specs.Passes.{PassView, BookView, counted, with_receipts, with_reading}

-- a range and its book
pub record Locked : Type 0 where
  pub state : State
  pub book : BookView

-- The facts that hold whenever the lock is free: the state is valid, the book's count is the journal's length, and each
-- entry belongs to a seat.
pub record IsLocked (seats : ℕ) (l : Locked) : Type 0 where
  pub right : IsRight l.state
  pub counted : l.book.number ≡ length l.state.store.entries
  pub seated : AllByRecursion (λ (e : Entry). e.seat < seats) l.state.store.entries

-- the range with another state that has no new entry
abbrev pub moved : Locked → State → Locked
moved l s = record l { state = s }

-- the range with another state that has these new entries, and the pass with their receipts
abbrev pub recorded : Locked → PassView → State → List Entry → Locked × PassView
recorded l p s es = (record { state = s; book = counted l.book (length es) }, with_receipts p (length s.store.entries) es)

-- a put by the pass, by a test of its context: the pass gets the receipt
abbrev pub put_in_by : ContextTest → Locked → PassView → ℕ → List ℕ → Pairs → Kind → List ℕ → Outcome Entry (Locked × PassView)
put_in_by test l p at key context kind value = do
  entry ← put_by test l.state p.seat at key context kind value
  gives entry.0 (recorded l p entry.1 (entry.0 ∷ []))

-- a put by the pass
abbrev pub put_in : Locked → PassView → ℕ → List ℕ → Pairs → Kind → List ℕ → Outcome Entry (Locked × PassView)
put_in l p at key context kind value = put_in_by Fresh l p at key context kind value

-- a put by the pass, that checks what its client has read
abbrev pub put_read_in : Locked → PassView → ℕ → List ℕ → Pairs → Kind → List ℕ → Outcome Entry (Locked × PassView)
put_read_in l p at key context kind value = put_in_by Read l p at key context kind value

-- range and pass after a version of another node: the pass gets the receipt if it was accepted
abbrev pub after_sent : Locked → PassView → Accepted → State → Locked × PassView
after_sent l p (Taken e) s = recorded l p s (e ∷ [])
after_sent l p Known s = (l, p)

-- a version of another node, accepted for the pass
abbrev pub accept_in : Locked → PassView → Source → List ℕ → Version → Outcome Accepted (Locked × PassView)
accept_in l p source key v = do
  reply ← accept l.state p.seat source key v
  gives reply.0 (after_sent l p reply.0 reply.1)

-- an entry has that key, and the versions do not cover its version
unfoldable pub is_missing : Entry → List ℕ → List Version → Bool
is_missing e key versions = bytes_eq e.key key && not (covered e.version versions)

-- the number of the first entry of a key that the versions do not cover
abbrev pub first_missing : List Entry → List ℕ → List Version → Option ℕ
first_missing [] key versions = None
first_missing (e ∷ es) key versions = if is_missing e key versions then Some e.number else first_missing es key versions

abbrev pub missing_fault : ℕ → ℕ → Option ℕ → Option Refusal
missing_fault seen journal None = None
missing_fault seen journal (Some number) = Some (Behind seen journal (Some number))

-- the refusal of a read by a pass: the journal is shorter than the part that it has seen, or a receipt of the pass for
-- the key is not covered
abbrev pub behind_fault : List Entry → PassView → List ℕ → Option Refusal
behind_fault entries p key = if nat_lt (length entries) p.seen then Some (Behind p.seen (length entries) None) else missing_fault p.seen (length entries) (first_missing p.receipts key (held entries key))

-- a pass reads a key, and keeps the versions as a reading
abbrev pub get_in : Locked → PassView → List ℕ → Outcome (List Version) PassView
get_in l p key = do
  behind_fault l.state.store.entries p key
  gives (held l.state.store.entries key) (with_reading p (record { front = length l.state.store.entries; key = key; versions = held l.state.store.entries key }))

-- the refusal of a read by a pass of that seat
pub record UnreadView : Type 0 where
  pub seat : ℕ
  pub refusal : Refusal

-- the result with the plain refusal
abbrev pub plainly : {T : Type 0} → Result T UnreadView → Result T Refusal
plainly (Ok x) = Ok x
plainly (Err u) = Err u.refusal

-- a text was taken: the book counts its receipts, and the pass has them
pub record IsRecorded (l : Locked) (p : PassView) (id : ℕ) (t : TakenText) (a : AnswerCounted) (m : Locked) (q : PassView) : Type 0 where
  pub taken : AnswerTaken
  pub takes : TakesAnswer l.state p.seat id t (Ok taken) m.state
  pub count : a ≡ count_of taken
  pub range : m ≡ (recorded l p m.state taken.receipts.items).0
  pub pass : q ≡ (recorded l p m.state taken.receipts.items).1

-- the result of a partner's text for a session, and range and pass afterwards
abbrev pub TellsAnswer : Locked → PassView → ℕ → TakenText → Result AnswerCounted Refusal → Locked → PassView → Type 0
TellsAnswer l p id t (Ok a) m q = IsRecorded l p id t a m q
TellsAnswer l p id t (Err e) m q = TakesAnswer l.state p.seat id t (Err e) m.state × (m ≡ moved l m.state) × (q ≡ p)

-- the first outstanding node of a session, which is known
abbrev pub IsNext : Locked → ℕ → Option Node → Type 0
IsNext l id first = MatchOption (record_of id l.state.records) ⊥ (λ r. IsFirstOf r.session.outstanding first)

-- the same, and with a text that was taken the first outstanding node of the session afterwards
abbrev pub TellsAnswerNext : Locked → PassView → ℕ → TakenText → Result (AnswerCounted × Option Node) Refusal → Locked → PassView → Type 0
TellsAnswerNext l p id t (Ok both) m q = TellsAnswer l p id t (Ok both.0) m q × IsNext m id both.1
TellsAnswerNext l p id t (Err e) m q = TellsAnswer l p id t (Err e) m q
