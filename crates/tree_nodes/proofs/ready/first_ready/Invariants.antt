use Rattle.std.proofs.Common.{◌≡◌, ◌-◌, length}
use Rattle.tree_nodes.specs.Nodes.{ready_from}
use Rattle.tree_nodes.proofs.ready.first_ready.Given as goal

abbrev pub invariant-loop-place : goal.invariant-loop-place
invariant-loop-place l = ready_from l.digests l.place ≡ ready_from l.digests l.fn.from

abbrev pub decreases-loop-place : goal.decreases-loop-place
decreases-loop-place l = length l.digests - l.place
