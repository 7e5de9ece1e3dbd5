use Rattle.std.proofs.Common.{◌≡◌, take}
use Rattle.version_set.proofs.set.are_same.Given as goal

abbrev pub invariant-loop-i : goal.invariant-loop-i
invariant-loop-i l = take l.i l.versions ≡ take l.i l.others
