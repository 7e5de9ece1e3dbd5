-- Sync workers: their refusals and their reports.
use Rattle.std.specs.Prelude.{◌≡◌, ◌≢◌, ℕ, length, List, Option, Some, None, MatchOption}
use Rattle.vclock.specs.Outcome.{gives, through}
use Rattle.vclock.specs.declared.refusal.Refusal.{Refusal}
use Rattle.vclock.specs.declared.refusal.Refusal.TheVariants.{Crowded, JournalFull, OtherRange, Dirty, UnknownSession, NotAsked, WrongDigest, NotCanonical, OtherFormat, SessionsFull, Gone, LinkLost, BadMessage, NoMemory}
use Rattle.tree_nodes.specs.Nodes.{Node}
use Rattle.sync_session.specs.declared.state.SessionState.{SessionState}
use Rattle.sync_session.specs.declared.state.SessionState.TheVariants.{Open}
use Rattle.walk_messages.specs.declared.message.Offer.{Offer}
use Rattle.range_state.specs.Records.{record_of}
use Rattle.range_state.specs.Sessions.{open_session}
use Rattle.range_state.specs.Moments.{opening}
use Rattle.range_state.specs.Syncs.{IsFirstOf}
use Rattle.range_state.specs.declared.local_rows.LocalRows.{LocalRows}
use Rattle.range_state.specs.declared.«record».Record.{Record}
use Rattle.caller_pass.specs.Locks.{Locked, moved}

-- the refusals of fetching a partner's offer
abbrev pub IsOfferRefusal : Refusal → Type 0
IsOfferRefusal LinkLost = Unit {0}
IsOfferRefusal Gone = Unit {0}
IsOfferRefusal BadMessage = Unit {0}
IsOfferRefusal NoMemory = Unit {0}
IsOfferRefusal e = ⊥

-- the refusals of opening a session
abbrev pub IsOpenRefusal : Refusal → Type 0
IsOpenRefusal OtherFormat = Unit {0}
IsOpenRefusal OtherRange = Unit {0}
IsOpenRefusal SessionsFull = Unit {0}
IsOpenRefusal Dirty = Unit {0}
IsOpenRefusal NoMemory = Unit {0}
IsOpenRefusal e = ⊥

-- the refusals of asking a partner
abbrev pub IsAskRefusal : Refusal → Type 0
IsAskRefusal LinkLost = Unit {0}
IsAskRefusal Gone = Unit {0}
IsAskRefusal NoMemory = Unit {0}
IsAskRefusal e = ⊥

-- the refusals of taking a partner's text
abbrev pub IsTakeRefusal : Refusal → Type 0
IsTakeRefusal UnknownSession = Unit {0}
IsTakeRefusal NotAsked = Unit {0}
IsTakeRefusal WrongDigest = Unit {0}
IsTakeRefusal NotCanonical = Unit {0}
IsTakeRefusal Crowded = Unit {0}
IsTakeRefusal JournalFull = Unit {0}
IsTakeRefusal NoMemory = Unit {0}
IsTakeRefusal e = ⊥

-- the refusals of a session after it was opened
abbrev pub IsWalkRefusal : Refusal → Type 0
IsWalkRefusal LinkLost = Unit {0}
IsWalkRefusal Gone = Unit {0}
IsWalkRefusal UnknownSession = Unit {0}
IsWalkRefusal Crowded = Unit {0}
IsWalkRefusal JournalFull = Unit {0}
IsWalkRefusal NoMemory = Unit {0}
IsWalkRefusal e = ⊥

-- a session with that partner is opened under that number, by some offer
abbrev pub IsOpening : ℕ → ℕ → Locked → Locked → Type 0
IsOpening id partner before after = (offer : Offer) × (through (moved before) (open_session before.state partner offer) ≡ gives id after)

-- a session with that partner, that compares these local rows, is opened under that number, by some offer
abbrev pub IsOpeningBy : LocalRows → ℕ → ℕ → Locked → Locked → Type 0
IsOpeningBy rows id partner before after = (offer : Offer) × (through (moved before) (opening rows before.state partner offer) ≡ gives id after)

-- some records have one of that number in this state, with this number of nodes asked, and it is not open
pub record IsEndIn (records : List Record) (id : ℕ) (state : SessionState) (asked : ℕ) : Type 0 where
  pub r : Record
  pub there : record_of id records ≡ Some r
  pub state_is : r.session.state ≡ state
  pub asked_is : length r.session.asked ≡ asked
  pub over : state ≢ Open

-- the first outstanding node of the session of that number, if there is such a session, and it has one
abbrev pub IsNextOrNone : List Record → ℕ → Option Node → Type 0
IsNextOrNone records id first = MatchOption (record_of id records) (first ≡ None) (λ r. IsFirstOf r.session.outstanding first)
