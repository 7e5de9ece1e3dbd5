use Rattle.std.proofs.Common.{◌≡◌, ◌⊎◌, Option, Ok, Err, ap, sym, ◌∙◌, subst}
use Rattle.std.proofs.lemmas.Result.{err_from_is_err_and}
use Rattle.vclock.specs.Outcome.{DoesOrNoMemory, refuses}
use Rattle.vclock.specs.declared.refusal.Refusal.TheVariants.{NoMemory}
use Rattle.range_store.specs.Store.{accept}
use Rattle.range_state.specs.State.{State}
use Rattle.outage_cluster.specs.State.{Replica, in_replica, range_in, replica_of}
use Rattle.outage_cluster.proofs.SyncLaws.{seen}
use Rattle.outage_cluster.proofs.OutcomeSteps.{loosely, call_seen, accept_config}
use Rattle.outage_cluster.proofs.replica.Replica.accept.Goals as goal

pub invariant_of-self : goal.invariant_of-self
invariant_of-self c = (
  c.self.invariant.0,
  accept_config c.accept.result c.in-Some.state c.accept.new.self 0 c.args.source c.args.key.now c.args.version
      c.accept.ensures ∙ ap (λ (o : Option State). (range_in c.self.inside.config o).store.config) (sym c.in-Some.is) ∙ c.self.invariant.1,
)

pub returns-in-Some-clause-accepts : goal.returns-in-Some-clause-accepts
returns-in-Some-clause-accepts c =
    let n = c.self.inside.node in
    let here = seen n c.self.inside.config c.self.inside.state c.in-Some.state c.args.self.now c.self.view_is c.in-Some.is in
    subst (λ (r : Replica). DoesOrNoMemory c.accept.result r (replica_of n c.accept.new.self)
    (in_replica r (accept r.range 0 c.args.source c.args.key.now c.args.version))) here
    (call_seen n c.accept.result c.in-Some.state c.accept.new.self (accept c.in-Some.state.store 0 c.args.source c.args.key.now c.args.version)
    (loosely c.accept.result c.in-Some.state c.accept.new.self _ c.accept.ensures))

pub returns-in_err-accepted-clause-accepts : goal.returns-in_err-accepted-clause-accepts
returns-in_err-accepted-clause-accepts c =
    let n = c.self.inside.node in
    let p = err_from_is_err_and c.from_residual-in_err-accepted.result c.from_residual-in_err-accepted.ensures.1 in
    let e = c.in_err-accepted.field-0.0 in
    let here = ap (replica_of n) c.in_ok-state.ensures.1
    ∙ ap (λ (o : Option State). replica_of n (range_in c.self.inside.config o)) (sym c.in_default.is) ∙ c.self.view_is in
    let did = call_seen n (Err e) c.in_ok-state.state c.accept-2.new.self
    (accept c.in_ok-state.state.store 0 c.args.source c.args.key.now c.args.version)
    (loosely (Err e) c.in_ok-state.state c.accept-2.new.self _ c.in_err-accepted.ensures) in
    rw (p.1, p.2) (
      c.self.view_is,
      subst (λ (r : Replica). (e ≡ NoMemory) ⊎ (in_replica r (accept r.range 0 c.args.source c.args.key.now c.args.version) ≡ refuses e)) here
          did.1,
    )

pub invariant_of-self-2 : goal.invariant_of-self-2
invariant_of-self-2 c = (
  c.self.invariant.0,
  accept_config
      (Ok c.in_ok-accepted.accepted) c.in_ok-state.state c.accept-2.new.self 0 c.args.source c.args.key.now c.args.version c.in_ok-accepted.ensures
      ∙ ap (λ (s : State). s.store.config) c.in_ok-state.ensures.1,
)

pub returns-clause-accepts : goal.returns-clause-accepts
returns-clause-accepts c =
    let n = c.self.inside.node in
    let here = ap (replica_of n) c.in_ok-state.ensures.1
    ∙ ap (λ (o : Option State). replica_of n (range_in c.self.inside.config o)) (sym c.in_default.is) ∙ c.self.view_is in
    subst (λ (r : Replica). DoesOrNoMemory (Ok c.in_ok-accepted.accepted) r (replica_of n c.accept-2.new.self)
    (in_replica r (accept r.range 0 c.args.source c.args.key.now c.args.version))) here
    (call_seen n (Ok c.in_ok-accepted.accepted) c.in_ok-state.state c.accept-2.new.self
    (accept c.in_ok-state.state.store 0 c.args.source c.args.key.now c.args.version)
    (loosely (Ok c.in_ok-accepted.accepted) c.in_ok-state.state c.accept-2.new.self _ c.in_ok-accepted.ensures))

pub returns-in-Some-clause-config : goal.returns-in-Some-clause-config
returns-in-Some-clause-config c =
    accept_config c.accept.result c.in-Some.state c.accept.new.self 0 c.args.source c.args.key.now c.args.version c.accept.ensures
    ∙ ap (λ (r : Replica). r.range.config)
    (seen c.self.inside.node c.self.inside.config c.self.inside.state c.in-Some.state c.args.self.now c.self.view_is c.in-Some.is)

pub returns-clause-config : goal.returns-clause-config
returns-clause-config c =
    let n = c.self.inside.node in
    let here = ap (replica_of n) c.in_ok-state.ensures.1
    ∙ ap (λ (o : Option State). replica_of n (range_in c.self.inside.config o)) (sym c.in_default.is) ∙ c.self.view_is in
    accept_config (Ok c.in_ok-accepted.accepted) c.in_ok-state.state c.accept-2.new.self 0 c.args.source c.args.key.now c.args.version
    c.in_ok-accepted.ensures ∙ ap (λ (r : Replica). r.range.config) here
