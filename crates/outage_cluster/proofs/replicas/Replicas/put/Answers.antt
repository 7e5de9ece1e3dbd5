use Rattle.std.proofs.Common.{rules, ◌≡◌, inl, inr, refl, sym, ap, ◌∙◌, subst, filter, length, map, List}
use Rattle.std.proofs.lemmas.Result.{err_from_is_err_and}
use Rattle.vclock.specs.Outcome.{gives}
use Rattle.outage_cluster.specs.Acts.{after_copy, put_by, takes}
use Rattle.outage_cluster.specs.Homes.{AreOf}
use Rattle.outage_cluster.specs.State.{Replica}
use Rattle.outage_cluster.proofs.DeliveryLaws.{nobody_home, put_copied, put_parts, put_uncopied}
use Rattle.outage_cluster.proofs.ListSteps.{front}
use Rattle.outage_cluster.proofs.ReplicaLaws.{of_sent}
use Rattle.outage_cluster.proofs.replicas.Replicas.put.Goals as goal

pub returns-in_err-at-clause-puts : goal.returns-in_err-at-clause-puts
returns-in_err-at-clause-puts c =
    let put = c.args.put in
    let old = c.args.self.now in
    let e = c.in_err-at.field-0.0 in
    let is = err_from_is_err_and c.from_residual.result c.from_residual.ensures.1 in
    rw (is.1, is.2) (inr (refl, put_uncopied c.args.down.now put old e (nobody_home put.node old (put_by put) e c.in_err-at.ensures)))

pub returns-in_err-receipt-clause-puts : goal.returns-in_err-receipt-clause-puts
returns-in_err-receipt-clause-puts c =
    let put = c.args.put in
    let old = c.args.self.now in
    let e = c.in_err-receipt.field-0.0 in
    let node : c.in_ok-at.at.node ≡ put.node = search rules in
    let key : c.as_slice.result.now ≡ put.key = search rules in
    let asked = put_parts put old c.in_ok-at.at.node c.as_slice.result.now c.args.context.now node key c.requires in
    let did = c.in_err-receipt.ensures in
    let is = err_from_is_err_and c.from_residual-in_err-receipt.result c.from_residual-in_err-receipt.ensures.1 in
    rw (is.1, is.2) (elim did.1 [
      | inl memory ↦ inl memory
      | inr cause ↦ inr (did.0, put_uncopied c.args.down.now put old e (asked ∙ cause))
    ])

pub invariant_of-self : goal.invariant_of-self
invariant_of-self c =
    let config = c.self-2.inside.config in
    let mid = c.self-2.inside.replicas.items in
    of_sent config c.send_to.new.replicas mid c.self-2.inside.replicas.len
    (c.in_err-copied.ensures.config config (subst (λ (rs : List Replica). AreOf config rs) (search rules) c.self-2.invariant)) c.self-2.invariant

pub invariant_of-self-2 : goal.invariant_of-self-2
invariant_of-self-2 c =
    let config = c.self-2.inside.config in
    let mid = c.self-2.inside.replicas.items in
    of_sent config c.send_to.new.replicas mid c.self-2.inside.replicas.len
    (c.in_ok-copied.ensures.config config (subst (λ (rs : List Replica). AreOf config rs) (search rules) c.self-2.invariant)) c.self-2.invariant

pub returns-clause-puts : goal.returns-clause-puts
returns-clause-puts c =
    let put = c.args.put in
    let old = c.args.self.now in
    let mid = c.self-2.inside.replicas.items in
    let receipt = c.in_ok-receipt.receipt in
    let node : c.in_ok-at.at.node ≡ put.node = search rules in
    let key : c.as_slice.result.now ≡ put.key = search rules in
    let asked = put_parts put old c.in_ok-at.at.node c.as_slice.result.now c.args.context.now node key c.requires in
    let made = put_copied c.args.down.now put old mid receipt (asked ∙ c.in_ok-receipt.ensures ∙ ap (gives receipt) (sym c.self-2.view_is)) in
    let count : c.in_ok-copied.copied ≡ length (filter (takes c.args.down.now put.node put.lose receipt) mid) = search rules in
    let all : c.send_to.new.replicas ≡ map (after_copy c.args.down.now put.node put.lose receipt) mid = search rules in
    let many : c.self-2.inside.replicas.len ≡ length c.send_to.new.replicas = search rules in
    made ∙ ap (λ n. gives (receipt, n) (map (after_copy c.args.down.now put.node put.lose receipt) mid)) (sym count)
    ∙ ap (gives (receipt, c.in_ok-copied.copied)) (sym all ∙ sym (front _ _ _ many))
