-- The migration of a range to format 2: its store is migrated, open sessions are cancelled, and the moment is dropped.
use Rattle.std.specs.Prelude.{map, None}
use Rattle.vclock.specs.Outcome.{Outcome, gives}
use Rattle.vclock.specs.declared.format.Format.{Format}
use Rattle.vclock.specs.declared.format.Format.TheVariants.{One, Two}
use Rattle.range_store.specs.Migrates as stores
use Rattle.sync_session.specs.Steps.{cancelled_by}
use Rattle.range_state.specs.declared.«record».Record.{Record}
use Rattle.range_state.specs.State.{State}
use Rattle.range_state.specs.Moments.{last_whole}

-- a record whose session, if it was open, is cancelled; its snapshot keeps its format
abbrev pub cancelled : Record → Record
cancelled r = record r { session = cancelled_by r.session r.session.state }

-- the state in format 2: the entries are unchanged, no node is clean, no session is open, and no moment is kept
abbrev pub in_two : State → State
in_two s = record { store = stores.in_two s.store; records = map cancelled s.records; moment = None; whole_before = last_whole s; next_session = s.next_session; settled = s.settled }

-- a state of format 1 is migrated, and one of format 2 is unchanged
abbrev pub migrated_from : Format → State → State
migrated_from One s = in_two s
migrated_from Two s = s

abbrev pub migrate : State → Outcome (Unit {0}) State
migrate s = gives tt (migrated_from s.store.config.format s)
