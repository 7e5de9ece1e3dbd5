use Rattle.std.proofs.Common.{◌≡◌, ◌++◌, map, take, drop}
use Rattle.range_state.specs.Migrates.{cancelled}
use Rattle.range_state.proofs.state.migration.cancel_all.Given as goal

abbrev pub invariant-loop-record : goal.invariant-loop-record
invariant-loop-record l = l.record-items ≡ map cancelled (take l.record-index l.initial.record-items) ++ drop l.record-index l.initial.record-items
