use Rattle.std.proofs.Common.{◌≡◌, replicate, []}
use Rattle.vclock.specs.declared.format.Format.TheVariants.{One}
use Rattle.test_core.proofs.snapshots.empty_leaves.Given as goal

abbrev pub invariant-loop : goal.invariant-loop
invariant-loop l = l.leaves.items ≡ replicate l.counter (record { format = One; rows = [] })
