use Rattle.std.proofs.Common.{rules, ◌≡◌, ◌∙◌, ℕ, sym, ap, subst, List, get_or, slice_set}
use Rattle.vclock.specs.Outcome.{DoesOrNoMemory}
use Rattle.range_store.specs.Store as range
use Rattle.outage_cluster.specs.Homes.{IsHome}
use Rattle.outage_cluster.specs.State.{Replica, at_home, in_replica}
use Rattle.outage_cluster.proofs.OutcomeSteps.{homed}
use Rattle.outage_cluster.proofs.replicas.Replicas.enter.Goals as goal

pub returns : goal.returns
returns c =
    let reps = c.self.inside.replicas.items in
    let i = c.args.at.place in
    let n = c.args.at.node in
    let own = c.index_mut.result.now in
    let new = c.put.new.self in
    let call = λ (h : range.Store). range.put h 0 n c.args.key.now c.args.context.now c.args.kind c.args.value in
    let here = subst (λ (rs : List Replica). IsHome n rs i) (sym c.self.view_is) c.requires in
    let is : own ≡ get_or reps i own = search rules in
    let node : own.node ≡ n = ap (λ (r : Replica). r.node) is ∙ here.node own in
    let puts = subst (λ (m : ℕ). DoesOrNoMemory c.put.result own new
    (in_replica own (range.put own.range 0 m c.args.key.now c.args.context.now c.args.kind c.args.value))) node c.put.ensures.puts in
    subst (λ (rs : List Replica). DoesOrNoMemory c.put.result rs (slice_set reps i new) (at_home n call rs)) c.self.view_is
    (homed n reps i own new call c.put.result here is puts)
