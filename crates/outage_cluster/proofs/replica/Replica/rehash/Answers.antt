use Rattle.std.proofs.Common.{subst}
use Rattle.vclock.specs.Outcome.{DoesOrBreaksOff}
use Rattle.outage_cluster.specs.Acts.{clean_at}
use Rattle.outage_cluster.specs.State.{Replica, in_replica, replica_of}
use Rattle.outage_cluster.proofs.SyncLaws.{seen}
use Rattle.outage_cluster.proofs.OutcomeSteps.{rehash_seen}
use Rattle.outage_cluster.proofs.replica.Replica.rehash.Goals as goal

pub returns-in-Some-clause-cleans : goal.returns-in-Some-clause-cleans
returns-in-Some-clause-cleans g c =
    let n = c.self.inside.node in
    let here = seen n c.self.inside.config c.self.inside.state c.in-Some.state c.args.self.now c.self.view_is c.in-Some.is in
    subst (λ (r : Replica). DoesOrBreaksOff c.rehash.result r (replica_of n c.rehash.new.self) (in_replica r (clean_at r.range))) here
    (rehash_seen n c.rehash.result c.in-Some.state c.rehash.new.self c.rehash.ensures.count c.rehash.ensures.ok)
