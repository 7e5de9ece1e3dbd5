use Rattle.std.proofs.Common.{◌≡◌, take, length}
use Rattle.range_store.specs.Offers.{offers_of}
use Rattle.range_store.proofs.store.renewal.count_in.Given as goal

abbrev pub invariant-loop-row : goal.invariant-loop-row
invariant-loop-row l = l.count ≡ length (offers_of (take l.row-index l.rows))
