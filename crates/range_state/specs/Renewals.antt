-- Renewed ranges: new ranges that begin with the versions that another one holds.
use Rattle.std.specs.Prelude.{ℕ, [], None}
use Rattle.range_store.specs.Renewals as stores
use Rattle.range_state.specs.State.{State}

-- a renewed store, without sessions or a moment; the session numbers continue
abbrev pub renewed_by : State → ℕ → ℕ → State
renewed_by s seat limit = record { store = stores.renewed_by s.store seat limit; records = []; moment = None; whole_before = 0; next_session = s.next_session; settled = 0 }
