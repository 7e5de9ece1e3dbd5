use Rattle.std.proofs.Common.{◌≡◌, vec_len}
use Rattle.outage_cluster.proofs.slots.Slots.renew.Given as goal

abbrev pub invariant-loop-slot : goal.invariant-loop-slot
invariant-loop-slot g l = record {
  counted : l.self-inside.controller.slots ≡ vec_len l.self-inside.lent;
  floor : l.self-inside.controller.floor ≡ 1;
  ceiling : l.self-inside.controller.ceiling ≡ 8;
  threshold : l.self-inside.controller.threshold ≡ 50000;
}

abbrev pub decreases-loop-slot : goal.decreases-loop-slot
decreases-loop-slot g l = vec_len l.self-inside.lent
