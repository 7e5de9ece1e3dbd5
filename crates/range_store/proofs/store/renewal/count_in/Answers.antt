use Rattle.std.proofs.Common.{length, ap, arith}
use Rattle.std.proofs.lemmas.List.Folds.{length-flat_map-take}
use Rattle.row_bytes.specs.declared.row.Row.{Row}
use Rattle.range_store.specs.Offers.{offers_in}
use Rattle.range_store.proofs.RenewLaws.{row_count}
use Rattle.range_store.proofs.store.renewal.count_in.Goals as goal

pub overflow_add-count : goal.overflow_add-count
overflow_add-count c =
    let r = c.row-item.result in
    let room = length-flat_map-take offers_in c.args.rows.now c.loop-row.row-index r c.loop-row-test.true in
    let here = ap (λ (x : Row). length (offers_in x)) c.row-item.is in
    omega (arith, room, here, row_count r, c.len.ensures, c.loop-row.invariant, c.requires)
