use Rattle.std.proofs.Common.{arith}
use Rattle.ring_node.proofs.range.SharedRange.moment_worker.Goals as goal
use Rattle.ring_node.proofs.range.SharedRange.moment_worker.Goals.{else-loop-test, then-loop-test+in_ok-job+in_default}

pub returns-clause-early : goal.returns-clause-early
returns-clause-early g c = elim c.loop-test.branch [
  | else-loop-test w ↦ λ less. absurd (omega (arith, less, w.loop-test.false, c.loop.invariant, c.loop.auto.counter-end))
  | then-loop-test+in_ok-job+in_default w ↦ λ less. w.in_ok-job.ensures.none w.in_default.is
]
