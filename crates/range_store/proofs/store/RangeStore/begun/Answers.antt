use Rattle.std.proofs.Common.{◌≡◌, ◌+◌, ◌++◌, [], List, length, map, sym, ap, ◌∙◌}
use Rattle.std.specs.Prelude.{max}
use Rattle.range_journal.specs.Log.{Log}
use Rattle.range_journal.proofs.JournalLaws.{reserve_ok}
use Rattle.row_table.specs.declared.table.TableRow.{TableRow}
use Rattle.row_table.specs.Tables.{Table, with_room}
use Rattle.range_tree.specs.Trees.{RangeTree}
use Rattle.range_store.specs.Config.{Config}
use Rattle.range_store.specs.Renewals.{Basis, by_leaf, copies_from, offers_by_leaf}
use Rattle.range_store.specs.TableRows.{row_of}
use Rattle.range_store.proofs.RenewLaws.{basis_bounded, begun_range}
use Rattle.range_store.proofs.RenewedTableLaws.{table_begun}
use Rattle.range_store.proofs.store.RangeStore.begun.Goals as goal

pub limited-requires-clause-few : goal.limited-requires-clause-few
limited-requires-clause-few c =
    basis_bounded (record { config = c.args.config.now; rows = c.args.tree.now.map.rows; marks = c.args.tree.now.marks }) c.requires.basis

pub invariant_of-result : goal.invariant_of-result
invariant_of-result c =
    let b : Basis = record { config = c.args.config.now; rows = c.args.tree.now.map.rows; marks = c.args.tree.now.marks } in
    let new = c.in_ok-new.new in
    let offers = offers_by_leaf b.config b.rows in
    let rows = map (row_of b.config.bits) (by_leaf b.config b.rows) in
    let entries = c.fill.new.journal.entries in
    let limited = c.in_ok-new.ensures.1.0 in
    let filled = c.in_ok-fill.ensures.1 in
    let tree = c.in_ok-share.ensures.1 in
    let reserved = (reserve_ok c.new-journal.result _ _ c.in_ok-reserve.ensures.reserves).is
    ∙ ap (λ (log : Log). record log { room = max log.room (c.in_ok-new.count + c.spare_room.result) }) c.new-journal.ensures in
    let given = c.in_ok-reserve-2.ensures in
    let bare : c.reserve-2.new.self ≡ with_room c.new-table.result (c.in_ok-new.count + c.spare_room.result) = cc in
    let no_rows : c.reserve-2.new.self.rows ≡ [] = ap (λ (t : Table). t.rows) bare ∙ ap (λ (t : Table). t.rows) c.new-table.ensures in
    let copies : entries ≡ copies_from 0 c.args.seat offers = ap (λ (log : Log). log.entries) filled.0
    ∙ ap (λ (log : Log). log.entries ++ copies_from (length log.entries) c.args.seat offers) reserved in
    let range = begun_range b c.args.seat c.args.limit new entries c.in_ok-share.field-0 c.requires.basis c.in_ok-new.ensures.0 limited copies
    (ap (λ (t : RangeTree). t.map) tree ∙ c.requires.of) (ap (λ (t : RangeTree). t.marks) tree) in (
      range.0,
      range.1,
      ap (λ (log : Log). log.limit) filled.0 ∙ ap (λ (log : Log). log.limit) reserved ∙ sym (ap (λ (x : Config). x.limit) limited),
      table_begun b c.args.seat c.args.limit new entries c.fill.new.table.rows c.requires.basis limited copies
          (filled.1 ∙ ap (λ (rs : List TableRow). rs ++ rows) no_rows),
    )
