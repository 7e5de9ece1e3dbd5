use Rattle.std.proofs.Common.{◌≡◌, ◌≤◌, length, filter, take}
use Rattle.range_store.specs.Config.{Config}
use Rattle.outage_cluster.specs.Homes.{AreOf}
use Rattle.outage_cluster.specs.Acts.{takes, after_copy}
use Rattle.outage_cluster.proofs.ReplicaLaws.{changed}
use Rattle.outage_cluster.proofs.replicas.send_to.Given as goal

abbrev pub invariant-loop-i : goal.invariant-loop-i
invariant-loop-i l = record {
  all : l.replicas ≡ changed (after_copy l.down l.node l.lose l.entry) l.i l.initial.replicas;
  count : l.copied ≡ length (filter (takes l.down l.node l.lose l.entry) (take l.i l.initial.replicas));
  most : l.copied ≤ l.i;
  kept : (config : Config) → AreOf config l.initial.replicas → AreOf config l.replicas;
}
