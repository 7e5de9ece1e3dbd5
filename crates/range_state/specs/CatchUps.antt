-- Renewals alongside the puts: a new range begins with the rows of a moment, and catches up with the entries that the
-- old one accepted since.
use Rattle.std.specs.Prelude.{◌≡◌, ◌⊎◌, ℕ, ◌+◌, ◌-◌, ◌==◌, ◌&&◌, nat_le, Bool, List, [], ◌∷◌, ◌++◌, length, take, drop, Option, Some, None, Result, Ok, Err, if◌then◌else◌}
use Rattle.vclock.specs.Answer.{first_fault}
use Rattle.vclock.specs.Format.{format_number}
use Rattle.vclock.specs.Outcome.{Outcome, gives, ◌>>◌}
use Rattle.vclock.specs.declared.refusal.Refusal.{Refusal}
use Rattle.vclock.specs.declared.refusal.Refusal.TheVariants.{Stale, NoMemory}
use Rattle.version_set.specs.Version.{offer_fault}
use Rattle.range_journal.specs.declared.journal.Entry.{Entry}
use Rattle.range_journal.specs.declared.journal.Source.TheVariants.{Copy}
use Rattle.range_journal.specs.Journal.{held}
use Rattle.range_store.specs.Config.{Config}
use Rattle.range_store.specs.Renewals.{Basis, begun_by, offers_by_leaf}
use Rattle.range_store.specs.Store.{Store, entry_of, journaled, knows, full_fault}
use Rattle.range_state.specs.declared.moment.Moment.{Moment}
use Rattle.range_state.specs.State.{State, rows_at}

-- ---- the beginning

-- the rows of a moment, the number of entries that made them, and the number of the next session
pub record Start : Type 0 where
  pub basis : Basis
  pub front : ℕ
  pub next_session : ℕ

abbrev pub start_at : State → Moment → Start
start_at s m = record { basis = record { config = s.store.config; rows = (rows_at s.store m.front).rows; marks = m.tree.marks }; front = m.front; next_session = s.next_session }

-- a new range with this beginning: each version is an entry, as a copy by a seat
abbrev pub begun_from : Start → ℕ → ℕ → State
begun_from b seat limit = record { store = begun_by b.basis seat limit; records = []; moment = None; whole_before = 0; next_session = b.next_session; settled = 0 }

-- a new range alongside the old one: the number of the old one's entries that it began with, and the number of those
-- that it has
pub record Renewing : Type 0 where
  pub state : State
  pub began : ℕ
  pub front : ℕ

abbrev pub renewing_from : Start → ℕ → ℕ → Renewing
renewing_from b seat limit = record { state = begun_from b seat limit; began = b.front; front = b.front }

-- ---- entries that the old range accepted since

-- both belong to one range and have one format
abbrev pub is_same_place : Config → Config → Bool
is_same_place c d = format_number c.format == format_number d.format && c.bits == d.bits && c.range == d.range

-- the fault of a range that can't be the old one: it has another range or format, or fewer entries than the old one had
abbrev pub stranger_fault : Renewing → State → Option Refusal
stranger_fault r old = if is_same_place r.state.store.config old.store.config && nat_le r.front (length old.store.entries) then None else Some Stale

-- the first `most` of the old range's entries that the new one doesn't have yet
abbrev pub later : Renewing → State → ℕ → List Entry
later r old most = take most (drop r.front old.store.entries)

-- the fault of an entry: it isn't new, its key is crowded, or the journal is full
abbrev pub entry_fault : Store → Entry → Option Refusal
entry_fault s e = if knows s e.key e.version then Some Stale else first_fault (offer_fault e.version (held s.entries e.key)) (full_fault s)

-- the store with an entry's version at its end, as a copy by a seat
abbrev pub with_copy : Store → ℕ → Entry → Store
with_copy s seat e = journaled s (entry_of s seat Copy e.key e.version)

abbrev pub with_copies_of : Store → ℕ → List Entry → Store
with_copies_of s seat [] = s
with_copies_of s seat (e ∷ es) = with_copies_of (with_copy s seat e) seat es

-- no entry has a fault in its turn
abbrev pub AreAccepted : Store → ℕ → List Entry → Type 0
AreAccepted s seat [] = Unit {0}
AreAccepted s seat (e ∷ es) = (entry_fault s e ≡ None) × AreAccepted (with_copy s seat e) seat es

-- the new range with these entries of the old one
abbrev pub with_later : Renewing → ℕ → List Entry → Renewing
with_later r seat es = record { state = record r.state { store = with_copies_of r.state.store seat es }; began = r.began; front = r.front + length es }

-- the new range accepts an entry
abbrev pub accept_entry : Renewing → ℕ → Entry → Outcome (Unit {0}) Renewing
accept_entry r seat e = do
  entry_fault r.state.store e
  gives tt (with_later r seat (e ∷ []))

-- the new range accepted all these entries
abbrev pub Accepts : Renewing → ℕ → List Entry → Renewing → Type 0
Accepts r seat es new = AreAccepted r.state.store seat es × (new ≡ with_later r seat es)

-- the new range accepted the entries before one with a fault, or before memory ran out
pub record StopsAmong (r : Renewing) (seat : ℕ) (es : List Entry) (e : Refusal) (new : Renewing) : Type 0 where
  pub before : List Entry
  pub next : Entry
  pub after : List Entry
  pub are : es ≡ before ++ next ∷ after
  pub accepted : Accepts r seat before new
  pub cause : (e ≡ NoMemory) ⊎ (entry_fault new.state.store next ≡ Some e)

-- the cause for which not all of the old range's entries were accepted: it can't be the old one, or one of them stopped
-- the call
abbrev pub FallsBehind : Renewing → State → ℕ → List Entry → Refusal → Renewing → Type 0
FallsBehind r old seat es e new =
    ((stranger_fault r old ≡ Some e) × (new ≡ r)) ⊎ ((stranger_fault r old ≡ None) × StopsAmong r seat es e new)

-- the result is the number of entries that are left
abbrev pub CatchesUp : Renewing → State → ℕ → ℕ → Result ℕ Refusal → Renewing → Type 0
CatchesUp r old seat most (Ok left) new =
    (stranger_fault r old ≡ None) × Accepts r seat (later r old most) new × (left ≡ length old.store.entries - new.front)
CatchesUp r old seat most (Err e) new = FallsBehind r old seat (later r old most) e new

-- ---- the end

-- the new range has each entry of the old one, and continues its session numbers
abbrev pub IsInPlaceOf : Renewing → State → ℕ → State → Type 0
IsInPlaceOf r old seat new =
    (stranger_fault r old ≡ None) × AreAccepted r.state.store seat (drop r.front old.store.entries)
    × (new ≡ record (with_later r seat (drop r.front old.store.entries)).state { next_session = old.next_session })

-- ---- the terms of the laws

-- the new range from a moment of a range, with the first k of the entries that the range accepted since
abbrev pub caught_up : State → Moment → ℕ → ℕ → ℕ → Store
caught_up s m seat limit k = with_copies_of (begun_from (start_at s m) seat limit).store seat (take k (drop m.front s.store.entries))

-- the number of its entries that the rows of the moment made
abbrev pub begun_count : State → Moment → ℕ
begun_count s m = length (offers_by_leaf s.store.config (rows_at s.store m.front).rows)
