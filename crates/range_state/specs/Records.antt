-- Records of sessions, and the conditions for their validity.
use Rattle.std.specs.Prelude.{◌≡◌, ◌≢◌, ◌⊎◌, ℕ, suc, ◌<◌, ◌==◌, Bool, true, false, length, List, [], ◌∷◌, Option, slice_get, if◌then◌else◌}
use Rattle.std.specs.List.{filter, AllByRecursion}
use Rattle.version_set.specs.Order.{Pairwise}
use Rattle.range_journal.specs.declared.journal.Entry.{Entry}
use Rattle.range_journal.specs.Journal.{held}
use Rattle.sync_session.specs.Differing.{IsOrderly, IsTraced}
use Rattle.sync_session.specs.Walks.{Walk, Walked}
use Rattle.sync_session.specs.declared.state.SessionState.{SessionState}
use Rattle.sync_session.specs.declared.state.SessionState.TheVariants.{Open, Finished, Failed, Cancelled}
use Rattle.range_store.specs.Config.{Config}
use Rattle.range_state.specs.declared.«record».Record.{Record}

-- a session can still take texts
abbrev pub is_open_state : SessionState → Bool
is_open_state Open = true
is_open_state Finished = false
is_open_state Failed = false
is_open_state Cancelled = false

unfoldable pub is_open : Record → Bool
is_open r = is_open_state r.session.state

-- the number of open sessions
abbrev pub open_count : List Record → ℕ
open_count records = length (filter is_open records)

-- the numbers of the records ascend, and are below the next one
pub record AreNumbered (next : ℕ) (records : List Record) : Type 0 where
  pub ascending : Pairwise (λ (r s : Record). r.number < s.number) records
  pub below : AllByRecursion (λ (r : Record). r.number < next) records

-- the place of the record with a number; past the last one if no record has it
abbrev pub place_of : ℕ → List Record → ℕ
place_of id [] = 0
place_of id (r ∷ records) = if r.number == id then 0 else suc (place_of id records)

-- the record with a number, if any
abbrev pub record_of : ℕ → List Record → Option Record
record_of id records = slice_get records (place_of id records)

-- a session that ended early: it failed or was cancelled
abbrev pub IsOver : Walk → Type 0
IsOver w = (w.state ≡ Failed) ⊎ (w.state ≡ Cancelled)

-- the snapshot of a session belongs to this range
pub record IsHere (c : Config) (w : Walk) : Type 0 where
  pub bits : w.own.bits ≡ c.bits
  pub range : w.own.range ≡ c.range

-- a session that didn't end early: everything that it has seen is held, and each node that was asked is either taken or
-- outstanding
pub record IsGoing (entries : List Entry) (w : Walk) : Type 0 where
  pub walked : Walked (held entries) w
  pub orderly : IsOrderly w

-- A record that is valid for the entries. Its snapshot belongs to this range and, while it is open, has the range's
-- format, since its versions are accepted; the nodes asked and the texts taken agree; if it isn't open, no node is
-- outstanding; and it ended early, or everything that it has seen is held.
pub record IsKept (c : Config) (entries : List Entry) (r : Record) : Type 0 where
  pub here : IsHere c r.session
  pub format : r.session.state ≡ Open → r.session.own.format ≡ c.format
  pub traced : IsTraced r.session
  pub ended : r.session.state ≢ Open → r.session.outstanding ≡ []
  pub going : IsOver r.session ⊎ IsGoing entries r.session
