use Rattle.std.proofs.Common.{ap, arith, length}
use Rattle.snapshot.specs.RowMaps.{RowMap}
use Rattle.range_store.specs.Renewals.{offers_by_leaf}
use Rattle.range_store.specs.Store.{Store}
use Rattle.range_store.proofs.RenewLaws.{held_bounded}
use Rattle.range_store.proofs.store.RangeStore.check_limit.Goals as goal

pub limited-requires-clause-few : goal.limited-requires-clause-few
limited-requires-clause-few c =
    let s : Store = record { config = c.self.inside.config; entries = c.self.inside.journal.entries; marks = c.self.inside.tree.marks } in
    let same = ap (λ (m : RowMap). length (offers_by_leaf s.config m.rows)) c.self.invariant.1 in
    omega (arith, same, held_bounded s c.self.invariant.0.config (omega (arith, c.len-within.ensures.valid.within, c.self.invariant.2)))
