use Rattle.std.proofs.Common.{rules, ◌≡◌, true, false, Some, sym, ◌∙◌}
use Rattle.std.specs.Prelude.{not, slice_get}
use Rattle.key_ring.specs.Ring.{preference_list}
use Rattle.outage_cluster.specs.State.{is_down}
use Rattle.outage_cluster.proofs.ListSteps.{find_here, find_next}
use Rattle.outage_cluster.proofs.cluster.Cluster.carrier_of.Goals as goal

pub returns-then-not-is_down : goal.returns-then-not-is_down
returns-then-not-is_down c =
    let nodes = preference_list c.args.self.now.ring.nodes c.args.range in
    let there : slice_get nodes c.loop-place.place ≡ Some c.preference-node.result = rw (← c.self.view_is) c.preference-node.ensures.node in
    let up : not (is_down c.args.self.now c.preference-node.result) ≡ true = search rules in
    sym (c.loop-place.invariant ∙ find_here (λ n. not (is_down c.args.self.now n)) nodes c.loop-place.place c.preference-node.result there up)

pub loop-place-preserved : goal.loop-place-preserved
loop-place-preserved c =
    let nodes = preference_list c.args.self.now.ring.nodes c.args.range in
    let there : slice_get nodes c.loop-place.place ≡ Some c.preference-node.result = rw (← c.self.view_is) c.preference-node.ensures.node in
    let down : not (is_down c.args.self.now c.preference-node.result) ≡ false = search rules in
    c.loop-place.invariant ∙ find_next (λ n. not (is_down c.args.self.now n)) nodes c.loop-place.place c.preference-node.result there down
