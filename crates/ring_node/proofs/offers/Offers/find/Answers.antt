use Rattle.std.proofs.Common.{rules, arith, inr, ap, ◌≡◌}
use Rattle.tree_nodes.specs.Nodes.{Node, tree_depth}
use Rattle.ring_node.specs.Offers.{kept_under}
use Rattle.ring_node.proofs.ReplyLaws.{too_deep}
use Rattle.ring_node.proofs.offers.Offers.find.Goals as goal

pub returns-then-node-tree_depth : goal.returns-then-node-tree_depth
returns-then-node-tree_depth c =
    let depth : c.tree_depth.result ≡ tree_depth c.in_ok-snapshot.field-0.now.rows.format = search rules in
    inr (too_deep (kept_under c.args.self.now c.args.ask.offer) c.in_ok-snapshot.field-0.now c.args.ask.node (search rules)
    (omega (arith, ap (λ (n : Node). n.depth) c.node.view_is)))
