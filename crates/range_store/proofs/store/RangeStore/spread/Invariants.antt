use Rattle.std.proofs.Common.{take}
use Rattle.range_store.specs.FormatLoads.{IsSpread}
use Rattle.range_store.specs.Offers.{offers_of}
use Rattle.range_store.proofs.store.RangeStore.spread.Given as goal

abbrev pub invariant-loop-row : goal.invariant-loop-row
invariant-loop-row l = IsSpread l.self l.seat (offers_of (take l.row-index l.rows)) l.spread
