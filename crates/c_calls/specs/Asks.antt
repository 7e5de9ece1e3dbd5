-- The outstanding nodes of a session, for C.
use Rattle.std.specs.Prelude.{◌≡◌, ℕ, List, [], length, slice_get, Option, Some, None, Result, Ok, Err, MatchOption}
use Rattle.vclock.specs.Answer.{Answers, first_fault}
use Rattle.vclock.specs.declared.refusal.Refusal.{Refusal}
use Rattle.vclock.specs.declared.refusal.Refusal.TheVariants.{UnknownSession}
use Rattle.walk_messages.specs.Messages.{message_text}
use Rattle.walk_messages.specs.declared.message.Message.TheVariants as messages
use Rattle.tree_nodes.specs.Nodes.{Node}
use Rattle.range_state.specs.Records.{record_of}
use Rattle.range_state.specs.State.{State}
use Rattle.range_state.specs.Sessions.{unknown_fault}
use Rattle.range_state.specs.Patches.{IsOutline}
use Rattle.text_patch.specs.Marks.{width_fault}
use Rattle.range_state.specs.declared.«record».Record.{Record}

-- the number of outstanding nodes of a record's session, if there is a record
abbrev pub count_of : Option Record → Result ℕ Refusal
count_of None = Err UnknownSession
count_of (Some r) = Ok (length r.session.outstanding)

abbrev pub outstanding_count : State → ℕ → Result ℕ Refusal
outstanding_count s id = count_of (record_of id s.records)

-- the message that asks for a node, or no bytes
abbrev pub asked_bytes : ℕ → Option Node → List ℕ
asked_bytes number None = []
asked_bytes number (Some node) = message_text (messages.Ask (record { offer = number; node = node }))

-- bytes that ask for the outstanding node of a session at a place, counted from 0, if any
pub record AsksNode (r : Record) (place number : ℕ) (bytes : List ℕ) : Type 0 where
  pub node : Option Node
  pub is_there : node ≡ slice_get r.session.outstanding place
  pub says : bytes ≡ asked_bytes number node

-- bytes that are the outline of a node, or no bytes
abbrev pub OutlinesOf : Record → ℕ → ℕ → Option Node → List ℕ → Type 0
OutlinesOf r number width None bytes = bytes ≡ []
OutlinesOf r number width (Some node) bytes = IsOutline r.session (record { offer = number; node = node }) width bytes

-- bytes that are the outline of the outstanding node of a session at a place, counted from 0, if any
pub record OutlinesNode (r : Record) (place number width : ℕ) (bytes : List ℕ) : Type 0 where
  pub node : Option Node
  pub is_there : node ≡ slice_get r.session.outstanding place
  pub says : OutlinesOf r number width node bytes

-- the outline of the node at a place of the session of that number: a width that no mark has is refused first
abbrev pub Outlines : State → ℕ → ℕ → ℕ → ℕ → Result (List ℕ) Refusal → Type 0
Outlines s id place number width r = Answers r (first_fault (width_fault width) (unknown_fault s id)) (λ bytes. MatchOption (record_of id s.records) ⊥ (λ kept. OutlinesNode kept place number width bytes))

-- bytes that ask for the node at a place of the session of that number
abbrev pub Asks : State → ℕ → ℕ → ℕ → Result (List ℕ) Refusal → Type 0
Asks s id place number r = Answers r (unknown_fault s id) (λ bytes. MatchOption (record_of id s.records) ⊥ (λ kept. AsksNode kept place number bytes))
