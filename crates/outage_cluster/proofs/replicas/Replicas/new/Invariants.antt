use Rattle.std.proofs.Common.{◌≡◌, [], map, take}
use Rattle.key_ring.specs.Ring.{preference_list}
use Rattle.outage_cluster.specs.State.{empty_range}
use Rattle.outage_cluster.proofs.replicas.Replicas.new.Given as goal

abbrev pub invariant-loop-place : goal.invariant-loop-place
invariant-loop-place l = l.replicas.items ≡ map (λ n. record { node = n; range = empty_range l.config l.config.range; sessions = [] })
    (take l.place (preference_list l.ring.nodes l.config.range))
