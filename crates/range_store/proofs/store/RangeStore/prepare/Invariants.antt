use Rattle.std.proofs.Common.{take}
use Rattle.range_store.specs.Offers.{offers_of}
use Rattle.range_store.proofs.BatchLaws.{IsGoing}
use Rattle.range_store.proofs.store.RangeStore.prepare.Given as goal

abbrev pub invariant-loop-row : goal.invariant-loop-row
invariant-loop-row l = IsGoing l.self l.seat l.source l.leaf (offers_of (take l.row-index l.rows)) l.initial.batch l.batch
