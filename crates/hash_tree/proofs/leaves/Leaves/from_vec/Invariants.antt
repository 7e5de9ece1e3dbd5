use Rattle.std.proofs.Common.{◌≡◌, ◌*◌, take}
use Rattle.tree_nodes.specs.Blocks.{joined, AreOf}
use Rattle.hash_tree.proofs.leaves.Leaves.from_vec.Given as goal

abbrev pub invariant-loop-number : goal.invariant-loop-number
invariant-loop-number l = record {
  so_far : joined l.blocks.items ≡ take (64 * l.number) l.leaves.items;
  each : AreOf 64 l.blocks.items;
}
