use Rattle.std.proofs.Common.{◌+◌, length, take, ap, ◌∙◌, arith}
use Rattle.std.proofs.lemmas.List.Folds.{length-flat_map-take}
use Rattle.range_journal.specs.Log.{Log}
use Rattle.row_bytes.specs.declared.row.Row.{Row}
use Rattle.range_store.specs.Offers.{offers_in, offers_of}
use Rattle.range_store.specs.Renewals.{with_copies}
use Rattle.range_store.proofs.BatchLaws.{offers_next}
use Rattle.range_store.proofs.RenewLaws.{with_copies_of}
use Rattle.range_store.proofs.store.renewal.append_rows.Goals as goal

pub append_row-requires : goal.append_row-requires
append_row-requires c =
    let room = length-flat_map-take offers_in c.args.rows.now c.loop-row.row-index c.row-item.result c.loop-row-test.true in
    let here = ap (λ (x : Row). length (offers_in x)) c.row-item.is in
    let left = ap (λ (log : Log). log.room) c.loop-row.invariant in
    omega (arith, room, here, left, c.requires)

pub loop-row-preserved : goal.loop-row-preserved
loop-row-preserved c =
    let rows = c.args.rows.now in
    let i = c.loop-row.row-index in
    let r = c.row-item.result in
    c.in_ok-append_row.ensures.1
    ∙ ap (λ (log : Log). with_copies log c.args.seat (offers_in r)) c.loop-row.invariant
    ∙ with_copies_of c.args.journal.now c.args.seat (offers_of (take i rows)) (offers_in r) (offers_of (take (i + 1) rows))
    (offers_next rows i r c.loop-row-test.true c.row-item.is)
