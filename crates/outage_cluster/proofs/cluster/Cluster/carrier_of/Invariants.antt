use Rattle.std.proofs.Common.{◌≡◌, drop}
use Rattle.std.specs.Prelude.{find, not}
use Rattle.key_ring.specs.Ring.{preference_list}
use Rattle.outage_cluster.specs.Handoff.{carrier_of}
use Rattle.outage_cluster.specs.State.{is_down}
use Rattle.outage_cluster.proofs.cluster.Cluster.carrier_of.Given as goal

-- those before the place are down
abbrev pub invariant-loop-place : goal.invariant-loop-place
invariant-loop-place l = carrier_of l.self l.range ≡ find (λ n. not (is_down l.self n)) (drop l.place (preference_list l.self.ring.nodes l.range))
