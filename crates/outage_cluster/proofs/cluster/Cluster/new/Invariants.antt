use Rattle.std.proofs.Common.{◌≡◌, map}
use Rattle.std.specs.List.{range_with_len}
use Rattle.outage_cluster.specs.State.{replicas_made}
use Rattle.outage_cluster.proofs.cluster.Cluster.new.Given as goal

abbrev pub invariant-loop-range : goal.invariant-loop-range
invariant-loop-range l = l.ranges.items ≡ map (replicas_made l.fn.ring l.fn.config) (range_with_len 0 l.range)
