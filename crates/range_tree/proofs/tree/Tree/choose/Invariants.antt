use Rattle.std.specs.Prelude.{IsTrue}
use Rattle.tree_nodes.specs.Nodes.{place_of, is_ready}
use Rattle.range_tree.specs.Jobs.{has_node}
use Rattle.range_tree.proofs.tree.Tree.choose.Given as goal

abbrev pub invariant-loop : goal.invariant-loop
invariant-loop l = IsTrue (has_node l.self l.chosen) × IsTrue (is_ready l.self.marks (place_of l.chosen))
