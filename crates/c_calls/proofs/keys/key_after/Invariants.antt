use Rattle.std.proofs.Common.{◌≡◌, length}
use Rattle.hash_tree.specs.Leaves.{AscendByKey}
use Rattle.c_calls.specs.Keys.{key_after}
use Rattle.c_calls.proofs.keys.key_after.Given as goal

abbrev pub invariant-loop-rows : goal.invariant-loop-rows
invariant-loop-rows l = record {
  same : key_after l.key l.runs ≡ key_after l.key l.leaf.rows;
  ascend : AscendByKey l.runs;
}

abbrev pub decreases-loop-rows : goal.decreases-loop-rows
decreases-loop-rows l = length l.runs
