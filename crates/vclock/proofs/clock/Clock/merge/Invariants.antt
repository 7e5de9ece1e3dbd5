use Rattle.std.proofs.Common.{◌≡◌, drop}
use Rattle.vclock.specs.Clock.{merged}
use Rattle.vclock.proofs.clock.Clock.merge.Given as goal

abbrev pub invariant-loop-i : goal.invariant-loop-i
invariant-loop-i l = record { is : l.merged.items ≡ merged l.self (drop l.i l.others) }
