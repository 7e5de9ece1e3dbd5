use Rattle.tree_nodes.specs.Blocks.{AreCopies}
use Rattle.tree_nodes.proofs.copies.fill_blocks.Given as goal

abbrev pub invariant-loop-place : goal.invariant-loop-place
invariant-loop-place l = AreCopies l.digests l.blocks
