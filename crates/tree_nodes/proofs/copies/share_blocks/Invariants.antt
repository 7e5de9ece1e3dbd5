use Rattle.std.proofs.Common.{◌≡◌, ℕ, ◌<◌, [], length, get_or}
use Rattle.tree_nodes.specs.Blocks.{AreOf, IsCopy}
use Rattle.tree_nodes.proofs.copies.share_blocks.Given as goal

abbrev pub invariant-loop-place : goal.invariant-loop-place
invariant-loop-place l = record {
  many : length l.shared.items ≡ l.place;
  each : (p : ℕ) → p < l.place → IsCopy l.digests p (get_or l.shared.items p []);
  sixteen : AreOf 16 l.shared.items;
}
