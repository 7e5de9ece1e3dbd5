-- A range without the records of its ended sessions.
use Rattle.std.specs.Prelude.{length, Option, Some, None, if◌then◌else◌}
use Rattle.std.specs.List.{filter}
use Rattle.range_store.specs.Copies as stores
use Rattle.range_state.specs.declared.«record».Record.{Record}
use Rattle.range_state.specs.Records.{is_open}
use Rattle.range_state.specs.State.{State}

-- the state with only the records of open sessions, and each partner's entry as a copy: no entry needs the record of
-- the session that took it
abbrev pub without_ended_sessions : State → State
without_ended_sessions s = record s { store = stores.with_copies s.store; records = filter is_open s.records; settled = length s.store.entries }

-- the record, if its session is open
abbrev pub if_open : Option Record → Option Record
if_open None = None
if_open (Some r) = if is_open r then Some r else None
