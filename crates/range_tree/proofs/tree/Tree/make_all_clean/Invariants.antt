use Rattle.range_tree.proofs.CleaningLaws.{IsCleaning}
use Rattle.range_tree.proofs.tree.Tree.make_all_clean.Given as goal

abbrev pub invariant-loop-i : goal.invariant-loop-i
invariant-loop-i l = IsCleaning l.initial.self l.nodes l.hashed l.i l.self
