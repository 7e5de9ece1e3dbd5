use Rattle.std.proofs.Common.{take}
use Rattle.range_state.specs.CatchUps.{Accepts}
use Rattle.range_state.proofs.state.renewal.Renewal.accept_all.Given as goal

abbrev pub invariant-loop-entry : goal.invariant-loop-entry
invariant-loop-entry l = Accepts l.fn.self l.seat (take l.entry-index l.entries) l.self
