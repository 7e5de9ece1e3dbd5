-- Runs of the range machine: the reply to each event, and the state after it.
use Rattle.std.specs.Prelude.{◌≡◌, ⊤, Result, Option, List, [], ◌∷◌, ℕ}
use Rattle.std.specs.Arc.{arc_value}
use Rattle.std.specs.declared.alloc.Global.{Global}
use Rattle.std.specs.declared.sync.Arc.{Arc}
use Rattle.vclock.specs.Answer.{Answers}
use Rattle.vclock.specs.Outcome.{Does, DoesAtOnce, DoesOrNoMemory}
use Rattle.vclock.specs.declared.refusal.Refusal.{Refusal}
use Rattle.vclock.specs.declared.refusal.Refusal.TheVariants.{NoMemory}
use Rattle.std.specs.Prelude.{None, IfErr}
use Rattle.version_set.specs.declared.version.Version.{Version}
use Rattle.range_journal.specs.declared.journal.Entry.{Entry}
use Rattle.range_journal.specs.Journal.{held}
use Rattle.range_store.specs.declared.receipt.Accepted.{Accepted}
use Rattle.range_state.specs.declared.event.Event.{Event}
use Rattle.range_state.specs.declared.event.Event.TheVariants as events
use Rattle.range_state.specs.declared.event.PutEvent.{PutEvent}
use Rattle.range_state.specs.declared.event.AcceptEvent.{AcceptEvent}
use Rattle.range_state.specs.declared.event.InstallEvent.{InstallEvent}
use Rattle.range_state.specs.declared.event.OpenEvent.{OpenEvent}
use Rattle.range_state.specs.declared.event.AnswerEvent.{AnswerEvent}
use Rattle.range_state.specs.declared.event.AnswerTaken.{AnswerTaken}
use Rattle.range_state.specs.declared.event.Reply.{Reply}
use Rattle.range_state.specs.declared.event.Reply.TheVariants as replies
use Rattle.range_state.specs.State.{State, IsRight, put, accept, install}
use Rattle.range_store.specs.Store.{ask_fault, tree_in, rows_now, dirty_fault}
use Rattle.range_tree.specs.Jobs.{GivesJob}
use Rattle.range_state.specs.Sessions.{open_session, cancel_session, TakesAnswer}
use Rattle.range_state.specs.Migrates.{migrate}
use Rattle.rehash.specs.Jobs.{NodeText}
use Rattle.snapshot.specs.RowMaps.{RowMap}

-- a put: NoMemory doesn't replace a cause that is tested before the clock is raised
abbrev pub PutStep : State → PutEvent → Result Entry Refusal → State → Type 0
PutStep s p r t = DoesOrNoMemory r s t (put s p.seat p.at p.key p.context p.kind p.value) × IfErr r (λ e. e ≡ NoMemory → ask_fault s.store.config p.at p.key p.context p.kind p.value ≡ None)

-- a version from another node
abbrev pub AcceptStep : State → AcceptEvent → Result Accepted Refusal → State → Type 0
AcceptStep s a r t = Does r s t (accept s a.seat a.source a.key a.version)

-- the result is the held versions, and nothing changed
abbrev pub GetStep : State → List ℕ → Result (List Version) Refusal → State → Type 0
GetStep s key r t = Answers r None (λ set. set ≡ held s.store.entries key) × (t ≡ s)

-- the result is a job or None, and nothing changed
abbrev pub TakeJobStep : State → Result (Option NodeText) Refusal → State → Type 0
TakeJobStep s r t = Answers r None (GivesJob (tree_in s.store)) × (t ≡ s)

-- the digest of a node's text is installed
abbrev pub InstallStep : State → InstallEvent → Result ⊤ Refusal → State → Type 0
InstallStep s i r t = DoesAtOnce r s t (install s i.node i.hashed)

-- the result is the rows now, or some node had no digest; and nothing changed
abbrev pub SnapshotStep : State → Result (Arc RowMap Global) Refusal → State → Type 0
SnapshotStep s r t = Answers r (dirty_fault s.store) (λ snapshot. arc_value snapshot ≡ rows_now s.store) × (t ≡ s)

-- a new session
abbrev pub OpenStep : State → OpenEvent → Result ℕ Refusal → State → Type 0
OpenStep s o r t = Does r s t (open_session s o.partner o.offer)

-- a partner's text was taken or refused
abbrev pub TakeAnswerStep : State → AnswerEvent → Result AnswerTaken Refusal → State → Type 0
TakeAnswerStep s a r t = TakesAnswer s a.seat a.id (record { node = a.node; text = a.text }) r t

-- a session is cancelled
abbrev pub CancelStep : State → ℕ → Result ⊤ Refusal → State → Type 0
CancelStep s id r t = DoesAtOnce r s t (cancel_session s id)

-- the range is migrated to format 2
abbrev pub MigrateStep : State → Result ⊤ Refusal → State → Type 0
MigrateStep s r t = Does r s t (migrate s)

-- from s, the event has this reply, and the next state is t
unfoldable pub IsStep : State → Event → Reply → State → Type 0
IsStep s (events.Put p) reply t = (r : Result Entry Refusal) × (reply ≡ replies.Put r) × PutStep s p r t
IsStep s (events.Accept a) reply t = (r : Result Accepted Refusal) × (reply ≡ replies.Accept r) × AcceptStep s a r t
IsStep s (events.Get key) reply t = (r : Result (List Version) Refusal) × (reply ≡ replies.Get r) × GetStep s key r t
IsStep s (events.TakeJob skip) reply t = (r : Result (Option NodeText) Refusal) × (reply ≡ replies.TakeJob r) × TakeJobStep s r t
IsStep s (events.Install i) reply t = (r : Result ⊤ Refusal) × (reply ≡ replies.Install r) × InstallStep s i r t
IsStep s events.Snapshot reply t = (r : Result (Arc RowMap Global) Refusal) × (reply ≡ replies.Snapshot r) × SnapshotStep s r t
IsStep s (events.OpenSession o) reply t = (r : Result ℕ Refusal) × (reply ≡ replies.OpenSession r) × OpenStep s o r t
IsStep s (events.TakeAnswer a) reply t = (r : Result AnswerTaken Refusal) × (reply ≡ replies.TakeAnswer r) × TakeAnswerStep s a r t
IsStep s (events.CancelSession id) reply t = (r : Result ⊤ Refusal) × (reply ≡ replies.CancelSession r) × CancelStep s id r t
IsStep s events.Migrate reply t = (r : Result ⊤ Refusal) × (reply ≡ replies.Migrate r) × MigrateStep s r t

-- from s, the events have these replies, in turn, and the last state is t; all states in between are valid
unfoldable pub Run : State → List Event → List Reply → State → Type 0
Run s [] [] t = t ≡ s
Run s [] (r ∷ rs) t = ⊥
Run s (e ∷ es) [] t = ⊥
Run s (e ∷ es) (r ∷ rs) t = (m : State) × IsStep s e r m × IsRight m × Run m es rs t
