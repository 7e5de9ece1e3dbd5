use Rattle.std.proofs.Common.{◌≡◌, replicate, None}
use Rattle.tree_nodes.proofs.marks.Marks.new.Given as goal

abbrev pub invariant-loop : goal.invariant-loop
invariant-loop l = l.digests.items ≡ replicate l.counter None
