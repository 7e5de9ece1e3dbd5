use Rattle.std.proofs.Common.{◌≡◌, take, drop, ◌++◌}
use Rattle.range_state.specs.Portions.{begun_within}
use Rattle.range_state.proofs.portion.portion_len.Given as goal

abbrev pub invariant-loop-count : goal.invariant-loop-count
invariant-loop-count l = take l.count l.jobs ++ begun_within l.left (drop l.count l.jobs) ≡ begun_within 262144 l.jobs
