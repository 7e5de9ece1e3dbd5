use Rattle.std.proofs.Common.{ℕ, List, [], sym, subst, take}
use Rattle.key_ring.specs.Ring.{preference_list}
use Rattle.outage_cluster.specs.Homes.{AreOf}
use Rattle.outage_cluster.specs.State.{Replica, empty_range}
use Rattle.outage_cluster.proofs.ReplicaLaws.{node_some, mapped_next, of_made}
use Rattle.outage_cluster.proofs.replicas.Replicas.new.Goals as goal

pub new-requires : goal.new-requires
new-requires c = node_some c.args.ring.now c.args.config.range c.loop-place.place c.preference-node.result c.nodes-valid.ensures.valid
    (rw c.range.ensures at c.preference-node.ensures.node)

pub loop-place-preserved : goal.loop-place-preserved
loop-place-preserved c =
    let f : ℕ → Replica = λ n. record { node = n; range = empty_range c.args.config c.args.config.range; sessions = [] } in
    let there = rw c.range.ensures at c.preference-node.ensures.node in
    rw (c.in_ok-push.ensures.items, c.loop-place.invariant, c.new.ensures)
    (mapped_next f (preference_list c.args.ring.now.nodes c.args.config.range) c.loop-place.place c.preference-node.result there)

pub invariant_of-result : goal.invariant_of-result
invariant_of-result c = subst (λ (reps : List Replica). AreOf c.args.config reps) (sym c.loop-place.invariant)
    (of_made c.args.config (take c.loop-place.place (preference_list c.args.ring.now.nodes c.args.config.range)))
