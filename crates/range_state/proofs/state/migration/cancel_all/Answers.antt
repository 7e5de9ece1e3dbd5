use Rattle.std.proofs.Common.{◌<◌, length, get_or, arith}
use Rattle.range_state.specs.declared.«record».Record.{Record}
use Rattle.range_journal.proofs.CopyLaws.{next_changed}
use Rattle.range_state.specs.Migrates.{cancelled}
use Rattle.range_state.proofs.state.migration.cancel_all.Goals as goal

pub loop-record-preserved : goal.loop-record-preserved
loop-record-preserved c =
    let xs = c.deref_mut-record-items.result.now in
    let items = c.loop-record.record-items in
    let i = c.loop-record.record-index in
    let r : Record = c.record-item.result in
    let within : i < length xs = omega (arith, c.loop-record-test.true) in
    next_changed cancelled xs items i r _ within c.loop-record.invariant
    (λ j. record { number = (get_or items i r).number; partner = (get_or items i r).partner; session = c.cancel.ensures j })
