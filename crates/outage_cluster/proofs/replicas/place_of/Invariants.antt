use Rattle.outage_cluster.proofs.ReplicaLaws.{NotYet}
use Rattle.outage_cluster.proofs.replicas.place_of.Given as goal

abbrev pub invariant-loop-place : goal.invariant-loop-place
invariant-loop-place l = NotYet l.node l.replicas l.place
