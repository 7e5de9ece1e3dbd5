use Rattle.std.specs.Prelude.{◌<◌}
use Rattle.outage_commands.proofs.fault.nearest_to.Given as goal

abbrev pub invariant-loop-place : goal.invariant-loop-place
invariant-loop-place l = l.nearest < 12
