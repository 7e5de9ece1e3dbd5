use Rattle.std.proofs.Common.{◌≡◌}
use Rattle.tree_nodes.specs.Nodes.{dirty_count}
use Rattle.range_tree.specs.Rehashes.{IsSameTree}
use Rattle.range_tree.proofs.tree.Tree.rehash_by.Given as goal

abbrev pub invariant-loop : goal.invariant-loop
invariant-loop g l = record {
  same : IsSameTree l.fn.self l.self;
  dirty : l.dirty ≡ dirty_count l.fn.self.marks;
}

abbrev pub decreases-loop : goal.decreases-loop
decreases-loop g l = dirty_count l.self.marks
