use Rattle.std.proofs.Common.{◌++◌, take}
use Rattle.range_store.specs.FormatLoads.{IsSpread}
use Rattle.range_store.proofs.BatchLaws.{Offers}
use Rattle.range_store.proofs.SpreadLaws.{offers_at}
use Rattle.range_store.proofs.store.RangeStore.spread_row.Given as goal

abbrev pub invariant-loop-version : goal.invariant-loop-version
invariant-loop-version l = (offers : Offers) → IsSpread l.self l.seat offers l.initial.spread
    → IsSpread l.self l.seat (offers ++ offers_at l.row.key (take l.version-index l.version-items)) l.spread
