use Rattle.std.proofs.Common.{◌≡◌, ◌⊎◌, Option, Ok, Err, ap, sym, ◌∙◌, subst}
use Rattle.std.proofs.lemmas.Result.{err_from_is_err_and}
use Rattle.vclock.specs.Outcome.{DoesOrNoMemory, refuses}
use Rattle.vclock.specs.declared.refusal.Refusal.TheVariants.{NoMemory}
use Rattle.range_store.specs.Store.{put}
use Rattle.range_state.specs.State.{State}
use Rattle.outage_cluster.specs.State.{Replica, in_replica, range_in, replica_of}
use Rattle.outage_cluster.proofs.SyncLaws.{seen}
use Rattle.outage_cluster.proofs.OutcomeSteps.{call_seen, put_config}
use Rattle.outage_cluster.proofs.replica.Replica.put.Goals as goal

pub invariant_of-self : goal.invariant_of-self
invariant_of-self c = (
  c.self.invariant.0,
  put_config c.put.result c.in-Some.state c.put.new.self 0 c.self.inside.node c.args.key.now c.args.context.now c.args.kind
      c.args.value c.put.ensures.puts ∙ ap (λ (o : Option State). (range_in c.self.inside.config o).store.config) (sym c.in-Some.is)
      ∙ c.self.invariant.1,
)

pub returns-in-Some-clause-puts : goal.returns-in-Some-clause-puts
returns-in-Some-clause-puts c =
    let n = c.self.inside.node in
    let here = seen n c.self.inside.config c.self.inside.state c.in-Some.state c.args.self.now c.self.view_is c.in-Some.is in
    subst (λ (r : Replica). DoesOrNoMemory c.put.result r (replica_of n c.put.new.self)
    (in_replica r (put r.range 0 r.node c.args.key.now c.args.context.now c.args.kind c.args.value))) here
    (call_seen n c.put.result c.in-Some.state c.put.new.self
    (put c.in-Some.state.store 0 n c.args.key.now c.args.context.now c.args.kind c.args.value) c.put.ensures.puts)

pub returns-in_err-receipt-clause-puts : goal.returns-in_err-receipt-clause-puts
returns-in_err-receipt-clause-puts c =
    let n = c.self.inside.node in
    let p = err_from_is_err_and c.from_residual-in_err-receipt.result c.from_residual-in_err-receipt.ensures.1 in
    let e = c.in_err-receipt.field-0.0 in
    let here = ap (replica_of n) c.in_ok-state.ensures.1
    ∙ ap (λ (o : Option State). replica_of n (range_in c.self.inside.config o)) (sym c.in_default.is) ∙ c.self.view_is in
    let did = call_seen n (Err e) c.in_ok-state.state c.put-2.new.self
    (put c.in_ok-state.state.store 0 n c.args.key.now c.args.context.now c.args.kind c.args.value) c.in_err-receipt.ensures.puts in
    rw (p.1, p.2) (
      c.self.view_is,
      subst (λ (r : Replica). (e ≡ NoMemory) ⊎
          (in_replica r (put r.range 0 r.node c.args.key.now c.args.context.now c.args.kind c.args.value) ≡ refuses e)) here did.1,
    )

pub invariant_of-self-2 : goal.invariant_of-self-2
invariant_of-self-2 c = (
  c.self.invariant.0,
  put_config
      (Ok c.in_ok-receipt.receipt) c.in_ok-state.state c.put-2.new.self 0 c.self.inside.node c.args.key.now c.args.context.now c.args.kind
      c.args.value c.in_ok-receipt.ensures.puts ∙ ap (λ (s : State). s.store.config) c.in_ok-state.ensures.1,
)

pub returns-clause-puts : goal.returns-clause-puts
returns-clause-puts c =
    let n = c.self.inside.node in
    let here = ap (replica_of n) c.in_ok-state.ensures.1
    ∙ ap (λ (o : Option State). replica_of n (range_in c.self.inside.config o)) (sym c.in_default.is) ∙ c.self.view_is in
    subst (λ (r : Replica). DoesOrNoMemory (Ok c.in_ok-receipt.receipt) r (replica_of n c.put-2.new.self)
    (in_replica r (put r.range 0 r.node c.args.key.now c.args.context.now c.args.kind c.args.value))) here
    (call_seen n (Ok c.in_ok-receipt.receipt) c.in_ok-state.state c.put-2.new.self
    (put c.in_ok-state.state.store 0 n c.args.key.now c.args.context.now c.args.kind c.args.value) c.in_ok-receipt.ensures.puts)

pub returns-in-Some-clause-config : goal.returns-in-Some-clause-config
returns-in-Some-clause-config c =
    put_config c.put.result c.in-Some.state c.put.new.self 0 c.self.inside.node c.args.key.now c.args.context.now c.args.kind c.args.value
    c.put.ensures.puts
    ∙ ap (λ (r : Replica). r.range.config)
    (seen c.self.inside.node c.self.inside.config c.self.inside.state c.in-Some.state c.args.self.now c.self.view_is c.in-Some.is)

pub returns-clause-config : goal.returns-clause-config
returns-clause-config c =
    let n = c.self.inside.node in
    let here = ap (replica_of n) c.in_ok-state.ensures.1
    ∙ ap (λ (o : Option State). replica_of n (range_in c.self.inside.config o)) (sym c.in_default.is) ∙ c.self.view_is in
    put_config (Ok c.in_ok-receipt.receipt) c.in_ok-state.state c.put-2.new.self 0 n c.args.key.now c.args.context.now c.args.kind c.args.value
    c.in_ok-receipt.ensures.puts ∙ ap (λ (r : Replica). r.range.config) here
