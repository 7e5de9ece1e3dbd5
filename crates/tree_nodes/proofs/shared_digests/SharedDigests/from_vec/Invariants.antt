use Rattle.std.proofs.Common.{◌≡◌, ◌*◌, take, drop}
use Rattle.tree_nodes.specs.Blocks.{joined, AreOf}
use Rattle.tree_nodes.proofs.shared_digests.SharedDigests.from_vec.Given as goal

abbrev pub invariant-loop-place : goal.invariant-loop-place
invariant-loop-place l = record {
  so_far : joined l.blocks.items ≡ take (16 * l.place) (drop 1 l.digests.items);
  each : AreOf 16 l.blocks.items;
}
