use Rattle.std.proofs.Common.{◌≡◌, ◌+◌, false}
use Rattle.ring_node.proofs.range.SharedRange.rehash_worker.Given as goal

abbrev pub invariant-loop : goal.invariant-loop
invariant-loop g l = record {
  turns : l.report.installed + l.report.stale ≡ l.counter;
  dirty : l.report.clean ≡ false;
}
