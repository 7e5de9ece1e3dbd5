use Rattle.std.proofs.Common.{◌≡◌, ◌+◌, length}
use Rattle.range_store.specs.Offers.{offers_of}
use Rattle.range_store.proofs.store.renewal.version_count.Given as goal

abbrev pub invariant-loop-rows : goal.invariant-loop-rows
invariant-loop-rows l = l.count + length (offers_of l.runs) ≡ length (offers_of l.leaf.rows)

abbrev pub decreases-loop-rows : goal.decreases-loop-rows
decreases-loop-rows l = length l.runs
