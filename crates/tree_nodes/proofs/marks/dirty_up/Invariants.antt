use Rattle.tree_nodes.specs.Blocks.{AreCopies}
use Rattle.tree_nodes.proofs.PathLaws.{steps_left}
use Rattle.tree_nodes.proofs.ClearingLaws.{IsClearing}
use Rattle.tree_nodes.proofs.marks.dirty_up.Given as goal

abbrev pub invariant-loop-next : goal.invariant-loop-next
invariant-loop-next l = record {
  clearing : IsClearing l.fn.format l.fn.leaf l.fn.digests l.next l.count l.digests;
  copies : AreCopies l.digests l.blocks;
}

abbrev pub decreases-loop-next : goal.decreases-loop-next
decreases-loop-next l = steps_left l.next
