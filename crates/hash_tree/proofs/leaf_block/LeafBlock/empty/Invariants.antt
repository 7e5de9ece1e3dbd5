use Rattle.std.proofs.Common.{◌≡◌, [], replicate}
use Rattle.hash_tree.proofs.leaf_block.LeafBlock.empty.Given as goal

abbrev pub invariant-loop : goal.invariant-loop
invariant-loop l = l.leaves.items ≡ replicate l.counter (record { format = l.fn.format; rows = [] })
