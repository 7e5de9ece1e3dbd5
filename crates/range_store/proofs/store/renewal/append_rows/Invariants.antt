use Rattle.std.proofs.Common.{◌≡◌, take}
use Rattle.range_store.specs.Offers.{offers_of}
use Rattle.range_store.specs.Renewals.{with_copies}
use Rattle.range_store.proofs.store.renewal.append_rows.Given as goal

abbrev pub invariant-loop-row : goal.invariant-loop-row
invariant-loop-row l = l.journal ≡ with_copies l.initial.journal l.seat (offers_of (take l.row-index l.rows))
