use Rattle.std.proofs.Common.{◌≡◌, ◌-◌, ◌^◌, take}
use Rattle.std.specs.Prelude.{min}
use Rattle.std.specs.List.{sum_by}
use Rattle.tree_nodes.specs.Blocks.{joined}
use Rattle.hash_tree.specs.Sizes.{leaf_len}
use Rattle.hash_tree.proofs.leaves.blocks_len.Given as goal

abbrev pub invariant-loop-block : goal.invariant-loop-block
invariant-loop-block l = l.len ≡ min (sum_by leaf_len (joined (take l.block-index l.blocks))) (2 ^ 64 - 1)
