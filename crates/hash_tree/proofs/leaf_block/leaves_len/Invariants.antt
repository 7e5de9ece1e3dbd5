use Rattle.std.proofs.Common.{◌≡◌, ◌-◌, ◌^◌, take}
use Rattle.std.specs.Prelude.{min}
use Rattle.std.specs.List.{sum_by}
use Rattle.hash_tree.specs.Sizes.{leaf_len}
use Rattle.hash_tree.proofs.leaf_block.leaves_len.Given as goal

abbrev pub invariant-loop-leaf : goal.invariant-loop-leaf
invariant-loop-leaf l = l.len ≡ min (sum_by leaf_len (take l.leaf-index l.leaves)) (2 ^ 64 - 1)
