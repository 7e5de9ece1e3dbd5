use Rattle.std.proofs.Common.{◌≡◌, drop}
use Rattle.vclock.specs.Clock.{has_repeat}
use Rattle.vclock.proofs.clock.has_repeat_among_few.Given as goal

abbrev pub invariant-loop-i : goal.invariant-loop-i
invariant-loop-i l = has_repeat (drop l.i l.pairs) ≡ has_repeat l.pairs
