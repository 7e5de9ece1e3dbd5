use Rattle.std.proofs.Common.{◌≡◌, replicate, None}
use Rattle.tree_nodes.proofs.copies.no_blocks.Given as goal

abbrev pub invariant-loop : goal.invariant-loop
invariant-loop l = l.blocks.items ≡ replicate l.counter None
