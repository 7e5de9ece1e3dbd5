use Rattle.std.proofs.Common.{◌≡◌, drop}
use Rattle.vclock.specs.Clock.{has_repeat}
use Rattle.c_calls.specs.Pairs.{clock_pairs}
use Rattle.c_calls.proofs.pair.has_repeat_among_few.Given as goal

abbrev pub invariant-loop-i : goal.invariant-loop-i
invariant-loop-i l = has_repeat (clock_pairs (drop l.i l.pairs)) ≡ has_repeat (clock_pairs l.pairs)
