use Rattle.std.proofs.Common.{rules, ◌≡◌, length, ap, ◌∙◌, arith}
use Rattle.std.proofs.lemmas.List.{length-replicate}
use Rattle.range_store.specs.Config.{Config}
use Rattle.outage_cluster.specs.State.{replicas_made}
use Rattle.outage_cluster.proofs.ReplicaLaws.{made_length, made_next}
use Rattle.outage_cluster.proofs.cluster.Cluster.new.Goals as goal

pub loop-range-preserved : goal.loop-range-preserved
loop-range-preserved c =
    let new : c.in_ok-new.field-0 ≡ replicas_made c.args.ring c.args.config c.loop-range.range = c.in_ok-new.ensures
    ∙ ap (λ (cf : Config). replicas_made c.args.ring cf cf.range) c.for_range.ensures in
    rw (c.in_ok-push.ensures.items, c.loop-range.invariant, new) (made_next (replicas_made c.args.ring c.args.config) c.loop-range.range)

pub invariant_of-result : goal.invariant_of-result
invariant_of-result c =
    let end : c.loop-range.range ≡ c.ranges-range-end.result = omega arith in
    let made = made_length (replicas_made c.args.ring c.args.config) c.loop-range.range in
    let stores : length c.in_ok-carriers.carriers.items ≡ length c.args.ring.nodes = ap length c.in_ok-carriers.ensures ∙ length-replicate _ _
    ∙ (search rules) in
    (ap length c.loop-range.invariant ∙ made ∙ end ∙ c.ranges-range-end.ensures, stores)
