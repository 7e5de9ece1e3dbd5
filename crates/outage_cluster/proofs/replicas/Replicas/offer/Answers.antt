use Rattle.std.proofs.Common.{rules, ◌≡◌, subst, List, get_or, slice_set}
use Rattle.vclock.specs.Outcome.{DoesOrNoMemory}
use Rattle.range_journal.specs.declared.journal.Source.TheVariants as Sources
use Rattle.range_store.specs.Store.{accept}
use Rattle.outage_cluster.specs.Homes.{IsHome}
use Rattle.outage_cluster.specs.State.{Replica, at_home}
use Rattle.outage_cluster.proofs.OutcomeSteps.{homed}
use Rattle.outage_cluster.proofs.replicas.Replicas.offer.Goals as goal

pub returns : goal.returns
returns c =
    let reps = c.self.inside.replicas.items in
    let i = c.in-Some.place in
    let own = c.index_mut.result.now in
    let here = subst (λ (rs : List Replica). IsHome c.args.node rs i) c.deref.ensures.value c.in-Some.ensures.some in
    let is : own ≡ get_or reps i own = search rules in
    subst (λ (rs : List Replica). DoesOrNoMemory c.accept.result rs (slice_set reps i c.accept.new.self)
    (at_home c.args.node (λ h. accept h 0 Sources.Hint c.args.key.now c.args.version) rs)) c.self.view_is
    (homed c.args.node reps i own c.accept.new.self
    (λ h. accept h 0 Sources.Hint c.args.key.now c.args.version) c.accept.result here is c.accept.ensures.accepts)
