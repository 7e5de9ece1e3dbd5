use Rattle.std.proofs.Common.{◌≡◌, vec_len}
use Rattle.outage_cluster.proofs.slots.Slots.close.Given as goal

abbrev pub invariant-loop-slot : goal.invariant-loop-slot
invariant-loop-slot g l = l.controller.slots ≡ vec_len l.lent

abbrev pub decreases-loop-slot : goal.decreases-loop-slot
decreases-loop-slot g l = vec_len l.lent
