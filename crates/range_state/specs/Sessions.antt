-- The calls on sessions: their results, and the states after them.
use Rattle.std.specs.Prelude.{◌≡◌, ◌⊎◌, ℕ, ◌+◌, ◌<◌, nat_le, ◌==◌, ◌||◌, ◌++◌, List, [], ◌∷◌, length, slice_get, map, slice_set, Option, Some, None, Result, Ok, Err, if◌then◌else◌}
use Rattle.std.specs.List.{filter}
use Rattle.vclock.specs.Format.{format_number}
use Rattle.vclock.specs.Outcome.{Outcome, gives, refuses, ◌>>◌}
use Rattle.vclock.specs.declared.refusal.Refusal.{Refusal}
use Rattle.vclock.specs.declared.refusal.Refusal.TheVariants as refusals
use Rattle.version_set.specs.declared.version.Version.{Version}
use Rattle.range_journal.specs.declared.journal.Source.TheVariants.{Partner}
use Rattle.row_bytes.specs.declared.row.Row.{Row}
use Rattle.tree_nodes.specs.Nodes.{tree_depth}
use Rattle.walk_messages.specs.declared.message.Offer.{Offer}
use Rattle.sync_session.specs.Readings.{AreOthers, Tells}
use Rattle.sync_session.specs.declared.news.News.{News}
use Rattle.sync_session.specs.Steps.{started, after, failed, cancelled_by, IsDue, IsTakeFault}
use Rattle.sync_session.specs.Walks.{TakenText, Walk, AreSpelled, IsInnerText}
use Rattle.sync_session.specs.declared.state.SessionState.{SessionState}
use Rattle.range_store.specs.Config.{Config}
use Rattle.range_store.specs.Store.{Store, rows_now, dirty_fault}
use Rattle.range_store.specs.Offers.{offers_of, accepted_in, accept_fault}
use Rattle.range_state.specs.Records.{is_open_state, place_of, record_of}
use Rattle.range_state.specs.declared.«record».Record.{Record}
use Rattle.range_state.specs.declared.event.AnswerTaken.{AnswerTaken}
use Rattle.range_state.specs.State.{State, with_store}

-- ---- opening

-- the fault of an offer that isn't for this range
abbrev pub foreign_fault : Config → Offer → Option Refusal
foreign_fault c offer = if offer.format == format_number c.format then (if offer.range == c.range then None else Some refusals.OtherRange) else Some refusals.OtherFormat

-- the state of each session
abbrev pub standings : List Record → List SessionState
standings records = map (λ (r : Record). r.session.state) records

-- the fault of opening another session in addition to sessions with these states: 64 are open, or there are 1,024
abbrev pub crowd_fault : List SessionState → Option Refusal
crowd_fault states = if nat_le 64 (length (filter is_open_state states)) || nat_le 1024 (length states) then Some refusals.SessionsFull else None

-- the state with one more record: a session that compares the rows now with the rows under a partner's root
abbrev pub opened : State → ℕ → List ℕ → State
opened s partner root = record s { records = s.records ++ (record { number = s.next_session; partner = partner; session = started (rows_now s.store) root }) ∷ []; next_session = s.next_session + 1 }

-- the number of a new session with a partner's root, and the state with its record
abbrev pub open_with : State → ℕ → List ℕ → Outcome ℕ State
open_with s partner root = do
  crowd_fault (standings s.records)
  dirty_fault s.store
  gives s.next_session (opened s partner root)

-- the number of a new session with a partner's offer, and the state with its record
abbrev pub open_session : State → ℕ → Offer → Outcome ℕ State
open_session s partner offer = do
  foreign_fault s.store.config offer
  open_with s partner offer.root

-- ---- changing a record

-- the state with another walk for the record at a place
abbrev pub walked_to : State → ℕ → Record → Walk → State
walked_to s place r w = record s { records = slice_set s.records place (record r { session = w }) }

-- the session of the record at a place, if any, is cancelled
abbrev pub cancel_record : State → ℕ → Option Record → Outcome (Unit {0}) State
cancel_record s place None = refuses refusals.UnknownSession
cancel_record s place (Some r) = gives tt (walked_to s place r (cancelled_by r.session r.session.state))

abbrev pub cancel_at : State → ℕ → Outcome (Unit {0}) State
cancel_at s place = cancel_record s place (slice_get s.records place)

-- the session with that number, if any, is cancelled
abbrev pub cancel_session : State → ℕ → Outcome (Unit {0}) State
cancel_session s id = cancel_at s (place_of id s.records)

-- the fault of a session without a record
abbrev pub unknown_for : Option Record → Option Refusal
unknown_for None = Some refusals.UnknownSession
unknown_for (Some r) = None

-- the fault of a place without a record, and of a number that no record has
abbrev pub unknown_at : State → ℕ → Option Refusal
unknown_at s place = unknown_for (slice_get s.records place)

abbrev pub unknown_fault : State → ℕ → Option Refusal
unknown_fault s id = unknown_for (record_of id s.records)

-- ---- accepting the versions of a leaf

-- the store after each version was accepted in its turn, as from a partner
abbrev pub taken_in : Store → ℕ → List (List ℕ × Version) → Store
taken_in s seat offers = accepted_in s seat Partner offers

-- the fault of accepting all these versions
abbrev pub leaf_fault : Store → ℕ → List (List ℕ × Version) → Option Refusal
leaf_fault s seat offers = accept_fault s seat Partner offers

-- ---- taking a text

-- an inner node's text that a session awaits
pub record IsInnerRead (s : State) (r : Record) (t : TakenText) : Type 0 where
  pub due : IsDue r.session t
  pub inner : t.node.depth < tree_depth s.store.config.format
  pub form : IsInnerText s.store.config.format t.text

-- a leaf's text that a session awaits, with these rows
pub record IsLeafRead (s : State) (r : Record) (t : TakenText) (rows : List Row) : Type 0 where
  pub due : IsDue r.session t
  pub leaf : t.node.depth ≡ tree_depth s.store.config.format
  pub spelled : AreSpelled r.session.own t.node t.text rows

-- a leaf's text that a session awaits, with the news in it
pub record IsNewsRead (s : State) (r : Record) (t : TakenText) (news : News) : Type 0 where
  pub rows : List Row
  pub read : IsLeafRead s r t rows
  pub parted : AreOthers r.session.own.rows rows news.rows.items news.known

-- an inner node has no versions, and only the session changes
pub record TakesInner (s : State) (id : ℕ) (r : Record) (t : TakenText) (a : AnswerTaken) (new : State) : Type 0 where
  pub read : IsInnerRead s r t
  pub receipts : a.receipts.items ≡ []
  pub known : a.known ≡ 0
  pub new_is : new ≡ walked_to s id r (after r.session t)

-- The versions of a leaf's rows are accepted, each in its turn, and the session continues. The receipts are the new
-- entries, in order, and every other version was known.
pub record TakesLeaf (s : State) (seat id : ℕ) (r : Record) (t : TakenText) (a : AnswerTaken) (new : State) : Type 0 where
  pub rows : List Row
  pub read : IsLeafRead s r t rows
  pub fault : leaf_fault s.store seat (offers_of rows) ≡ None
  pub receipts : s.store.entries ++ a.receipts.items ≡ (taken_in s.store seat (offers_of rows)).entries
  pub known : length a.receipts.items + a.known ≡ length (offers_of rows)
  pub new_is : new ≡ walked_to (with_store s (taken_in s.store seat (offers_of rows))) id r (after r.session t)

-- not all versions of a leaf's rows are accepted
pub record IsLeafFault (s : State) (seat : ℕ) (r : Record) (t : TakenText) (e : Refusal) : Type 0 where
  pub rows : List Row
  pub read : IsLeafRead s r t rows
  pub fault : leaf_fault s.store seat (offers_of rows) ≡ Some e

-- the fault of a text that isn't taken
abbrev pub TextFault : State → ℕ → Record → TakenText → Refusal → Type 0
TextFault s seat r t refusals.Crowded = IsLeafFault s seat r t refusals.Crowded
TextFault s seat r t refusals.JournalFull = IsLeafFault s seat r t refusals.JournalFull
TextFault s seat r t e = IsTakeFault r.session t e

-- the fault of a text, and the state afterwards: a session fails after a text that the node can't have, otherwise
-- nothing changes
abbrev pub Refuses : State → ℕ → ℕ → Record → TakenText → Refusal → State → Type 0
Refuses s seat id r t refusals.NotCanonical new = TextFault s seat r t refusals.NotCanonical × (new ≡ walked_to s id r (failed r.session))
Refuses s seat id r t e new = TextFault s seat r t e × (new ≡ s)

-- a text that a session can take: an inner node's, or a leaf's whose versions can all be accepted
abbrev pub IsTakable : State → ℕ → Record → TakenText → Type 0
IsTakable s seat r t = IsInnerRead s r t ⊎ ((rows : List Row) × IsLeafRead s r t rows × (leaf_fault s.store seat (offers_of rows) ≡ None))

-- the news in a text for a session, if it can take the text
abbrev pub TellsText : State → ℕ → Record → TakenText → Result News Refusal → Type 0
TellsText s seat r t (Ok news) = Tells r.session t (Ok news) × IsTakable s seat r t
TellsText s seat r t (Err e) = TextFault s seat r t e

-- the result of a text for a session, and the state afterwards
abbrev pub TakesText : State → ℕ → ℕ → Record → TakenText → Result AnswerTaken Refusal → State → Type 0
TakesText s seat id r t (Ok a) new = (a.state ≡ (after r.session t).state) × (TakesInner s id r t a new ⊎ TakesLeaf s seat id r t a new)
TakesText s seat id r t (Err e) new = Refuses s seat id r t e new

-- the result of a text for the session of a record, if any; nothing changes without a record
abbrev pub TakesFor : State → ℕ → ℕ → Option Record → TakenText → Result AnswerTaken Refusal → State → Type 0
TakesFor s seat id (Some r) t result new = TakesText s seat id r t result new
TakesFor s seat id None t result new = (result ≡ Err refusals.UnknownSession) × (new ≡ s)

abbrev pub TakesAt : State → ℕ → ℕ → TakenText → Result AnswerTaken Refusal → State → Type 0
TakesAt s seat place t result new = TakesFor s seat place (slice_get s.records place) t result new

-- the result of a text for the session with that number, and the state afterwards
abbrev pub TakesAnswer : State → ℕ → ℕ → TakenText → Result AnswerTaken Refusal → State → Type 0
TakesAnswer s seat id t result new = TakesAt s seat (place_of id s.records) t result new
