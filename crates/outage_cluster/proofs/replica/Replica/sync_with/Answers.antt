use Rattle.std.proofs.Common.{◌≡◌, Option, Some, sym, ap, subst, inr, ◌∙◌}
use Rattle.vclock.specs.Answer.{AnswersOrNoMemory, first_fault}
use Rattle.vclock.specs.declared.refusal.Refusal.TheVariants.{Dirty}
use Rattle.std.specs.Prelude.{OnOk}
use Rattle.range_store.specs.Store as range
use Rattle.range_state.specs.State.{State}
use Rattle.range_state.specs.Sessions.{crowd_fault, standings}
use Rattle.outage_cluster.specs.State.{Replica, range_in, replica_of}
use Rattle.outage_cluster.specs.Syncs.{IsReported, synced_with}
use Rattle.outage_cluster.proofs.SyncLaws.{fresh_dirty, seen, sync_answers, sync_config, sync_ok}
use Rattle.outage_cluster.proofs.replica.Replica.sync_with.Goals as goal

pub invariant_of-self : goal.invariant_of-self
invariant_of-self c =
    let same = sync_config c.in-Some.state c.sync_with.new.self c.args.partner c.args.other.now c.sync_with.result c.sync_with.ensures.ok
    c.sync_with.ensures.late in
    (c.self.invariant.0, same ∙ ap (λ (o : Option State). (range_in c.self.inside.config o).store.config) (sym c.in-Some.is) ∙ c.self.invariant.1)

pub returns-in-Some-clause-answers : goal.returns-in-Some-clause-answers
returns-in-Some-clause-answers c =
    let n = c.self.inside.node in
    let s = c.in-Some.state in
    let here = seen n c.self.inside.config c.self.inside.state s c.args.self.now c.self.view_is c.in-Some.is in
    subst (λ (r : Replica). AnswersOrNoMemory c.sync_with.result (first_fault (crowd_fault r.sessions) (range.dirty_fault r.range))
    (IsReported r c.args.other.now)) here
    (sync_answers n s c.sync_with.new.self c.args.other.now
    (first_fault (crowd_fault (standings s.records)) (range.dirty_fault s.store)) c.sync_with.result c.sync_with.ensures.answers
    c.sync_with.ensures.ok)

pub returns-in-Some-clause-ok : goal.returns-in-Some-clause-ok
returns-in-Some-clause-ok c =
    let n = c.self.inside.node in
    let s = c.in-Some.state in
    let here = seen n c.self.inside.config c.self.inside.state s c.args.self.now c.self.view_is c.in-Some.is in
    subst (λ (r : Replica). OnOk c.sync_with.result (replica_of n c.sync_with.new.self ≡ synced_with c.args.other.now r)) here
    (sync_ok n s c.sync_with.new.self c.args.other.now c.sync_with.result c.sync_with.ensures.ok)

pub returns-in-Some-clause-config : goal.returns-in-Some-clause-config
returns-in-Some-clause-config c =
    let here = seen c.self.inside.node c.self.inside.config c.self.inside.state c.in-Some.state c.args.self.now c.self.view_is c.in-Some.is in
    sync_config c.in-Some.state c.sync_with.new.self c.args.partner c.args.other.now c.sync_with.result c.sync_with.ensures.ok
    c.sync_with.ensures.late ∙ ap (λ (r : Replica). r.range.config) here

pub returns-clause-answers : goal.returns-clause-answers
returns-clause-answers c =
    let config = c.self.inside.config in
    let here = ap (λ (o : Option State). replica_of c.self.inside.node (range_in config o)) (sym c.in_default.is) ∙ c.self.view_is in
    inr (subst (λ (r : Replica). first_fault (crowd_fault r.sessions) (range.dirty_fault r.range) ≡ Some Dirty) here (fresh_dirty config))
