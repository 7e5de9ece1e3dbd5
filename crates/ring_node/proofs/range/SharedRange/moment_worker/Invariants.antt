use Rattle.std.proofs.Common.{◌≡◌, ◌+◌}
use Rattle.ring_node.proofs.range.SharedRange.moment_worker.Given as goal

abbrev pub invariant-loop : goal.invariant-loop
invariant-loop g l = l.installed + l.stale ≡ l.counter
