use Rattle.std.proofs.Common.{◌≡◌, map, take}
use Rattle.rehash.specs.Jobs.{NodeText}
use Rattle.range_tree.proofs.tree.bulk.nodes_of.Given as goal

abbrev pub invariant-loop-job : goal.invariant-loop-job
invariant-loop-job l = l.nodes.items ≡ map (λ (j : NodeText). j.node) (take l.job-index l.jobs)
