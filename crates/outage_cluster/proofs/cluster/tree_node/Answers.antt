use Rattle.std.proofs.Common.{◌<◌, ◌≤◌, arith, sym}
use Rattle.tree_nodes.specs.Nodes.{tree_depth}
use Rattle.outage_cluster.proofs.NodeLaws.{too_deep, too_wide}
use Rattle.outage_cluster.proofs.cluster.tree_node.Goals as goal
use Rattle.outage_cluster.proofs.cluster.tree_node.Goals.{then-depth-from-via-then-depth-from, then-depth-from-via-else-depth-from+then-index-from}

pub returns-then-depth-from-clause-some : goal.returns-then-depth-from-clause-some
returns-then-depth-from-clause-some c = elim c.then-depth-from.branch [
  | then-depth-from-via-then-depth-from w ↦
      let deep : tree_depth c.args.format < c.args.depth = omega (arith, w.if-depth-from.true, c.from.ensures, c.tree_depth.ensures) in
      sym (too_deep c.args.format c.args.depth c.args.index deep)
  | then-depth-from-via-else-depth-from+then-index-from w ↦
      let low : c.args.depth ≤ tree_depth c.args.format = omega (arith, w.if-depth-from.false, c.from.ensures, c.tree_depth.ensures) in
      let wide : 65535 < c.args.index = omega (arith, w.if-index-from.true, w.from-else-depth-from.ensures) in
      sym (too_wide c.args.format c.args.depth c.args.index low wide)
]
