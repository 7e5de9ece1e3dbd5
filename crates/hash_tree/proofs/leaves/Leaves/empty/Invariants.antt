use Rattle.std.proofs.Common.{◌≡◌, [], replicate}
use Rattle.hash_tree.proofs.leaves.Leaves.empty.Given as goal

abbrev pub invariant-loop : goal.invariant-loop
invariant-loop l = l.blocks.items ≡ replicate l.counter (replicate 64 (record { format = l.fn.format; rows = [] }))
