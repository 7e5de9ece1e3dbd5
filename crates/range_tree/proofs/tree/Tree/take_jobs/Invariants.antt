use Rattle.std.proofs.Common.{◌≡◌, ◌++◌, ◌-◌, ◌≤◌, map, length}
use Rattle.std.specs.List.{AllByRecursion}
use Rattle.tree_nodes.specs.Nodes.{place_of, ready_from}
use Rattle.rehash.specs.Jobs.{NodeText}
use Rattle.range_tree.specs.Jobs.{IsJob}
use Rattle.range_tree.proofs.tree.Tree.take_jobs.Given as goal

abbrev pub invariant-loop-alloc : goal.invariant-loop-alloc
invariant-loop-alloc l = record {
  nodes : map (λ (job : NodeText). place_of job.node) l.jobs.items ++ ready_from l.self.marks l.from ≡ ready_from l.self.marks 0;
  each : AllByRecursion (IsJob l.self) l.jobs.items;
  few : length l.jobs.items ≤ l.most;
}

abbrev pub decreases-loop-alloc : goal.decreases-loop-alloc
decreases-loop-alloc l = l.most - length l.jobs.items
