use Rattle.std.proofs.Common.{◌≡◌}
use Rattle.exchange.specs.Estimates.{drawn}
use Rattle.exchange.proofs.estimate.keys_in.Given as goal

abbrev pub invariant-loop-seen : goal.invariant-loop-seen
invariant-loop-seen l = l.parts ≡ drawn l.seen
