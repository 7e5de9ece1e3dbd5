use Rattle.std.proofs.Common.{rules, ◌≡◌, [], None, refl, not, filter}
use Rattle.std.proofs.lemmas.Fn.{filter_same}
use Rattle.std.specs.Prelude.{◌==◌}
use Rattle.outage_cluster.specs.Acts.{ring_nodes_fault, up_act}
use Rattle.outage_cluster.proofs.cluster.Cluster.bring_up.Goals as goal

pub returns : goal.returns
unfolding up_act
returns c =
    let fine : ring_nodes_fault c.args.self.now c.args.node [] ≡ None = search rules in
    let others : c.retain.new.self.items ≡ filter (λ m. not (m == c.args.node)) c.self.inside.down.items = filter_same _
    (λ m. not (m == c.args.node)) _ (λ x r f' k. search rules) _ _ c.retain.ensures.filtered in
    rw (fine, ← c.self.view_is, others) refl
