use Rattle.std.proofs.Common.{◌≡◌, length}
use Rattle.oom_calls.proofs.core_calls.trees.leaves.Given as goal

abbrev pub invariant-loop : goal.invariant-loop
invariant-loop l = length l.all.items ≡ l.counter
