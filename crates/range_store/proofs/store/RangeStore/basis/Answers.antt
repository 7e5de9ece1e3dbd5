use Rattle.std.proofs.Common.{◌≡◌, take, ap, sym, ◌∙◌, arith}
use Rattle.snapshot.specs.RowMaps.{RowMap}
use Rattle.range_store.specs.Store.{Store, rows_now}
use Rattle.range_store.proofs.RenewLaws.{basis_right, few_entries}
use Rattle.range_store.proofs.store.RangeStore.basis.Goals as goal

pub invariant_of-result : goal.invariant_of-result
invariant_of-result c =
    let s : Store = record { config = c.self.inside.config; entries = c.self.inside.journal.entries; marks = c.self.inside.tree.marks } in
    let front = c.requires.0 in
    let is : c.args.tree.map ≡ rows_now (record s { entries = take front s.entries }) = c.requires.1
    ∙ ap (λ (u : Store). rows_now (record u { entries = take front u.entries })) (sym c.self.view_is) in
    let few = few_entries s c.self.invariant.0.config (omega (arith, c.len-within.ensures.valid.within, c.self.invariant.2)) in (
      basis_right s front c.args.tree c.self.invariant.0 few c.dirty_count-right.ensures.valid is,
      is
          ∙ ap (λ (m : RowMap). record { format = s.config.format; bits = s.config.bits; range = s.config.range; rows = m.rows }) (sym is),
    )
