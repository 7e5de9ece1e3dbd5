use Rattle.std.proofs.Common.{◌≡◌, arith}
use Rattle.outage_cluster.proofs.ReplicaLaws.{found_here}
use Rattle.outage_cluster.proofs.replicas.place_of.Goals as goal

pub returns-then-from-node-clause-some : goal.returns-then-from-node-clause-some
returns-then-from-node-clause-some c =
    let is : c.index-replicas-place.result.node ≡ c.args.node = cc (c.if-from-node.true, c.from.ensures, c.node.ensures) in
    found_here c.args.replicas.now c.loop-place.place c.args.node c.index-replicas-place.result
    (omega (arith, c.loop-place-test.true)) c.index-replicas-place.is is c.loop-place.invariant
