use Rattle.std.proofs.Common.{◌≡◌, ◌<◌, length, Some, slice_get, get_or, subst, refl, sym, ap, arith, ◌∙◌}
use Rattle.std.specs.Option.{IfSome}
use Rattle.std.proofs.lemmas.Option.{slice_get_read}
use Rattle.row_table.specs.declared.table.TableRow.{TableRow}
use Rattle.row_table.proofs.TableLaws.{place_within, found_is}
use Rattle.range_store.proofs.store.table_rows.copy_key.Goals as goal
use Rattle.range_store.proofs.store.table_rows.copy_key.Goals.{After-rows}

within : (c : After-rows) → c.in-Some.place < length c.args.table.now.rows
within c = subst (λ o. IfSome o (λ p. p < length c.args.table.now.rows)) c.in-Some.is
    (place_within c.args.table.now.rows c.args.key.now c.args.place c.requires)

pub bounds-rows-place : goal.bounds-rows-place
bounds-rows-place c = omega (arith, within (goal.at.bounds-rows-place c).After-rows, ap length c.rows.ensures)

pub offset_bounds-rows-place : goal.offset_bounds-rows-place
offset_bounds-rows-place c = omega (arith, within (goal.at.offset_bounds-rows-place c).After-rows, ap length c.rows.ensures, c.rows.type_inv)

pub returns-in_ok-try_clone-in-Some : goal.returns-in_ok-try_clone-in-Some
returns-in_ok-try_clone-in-Some c =
    let rs = c.args.table.now.rows in
    let r : TableRow = c.index-rows-place.result in
    let below : c.in-Some.place < length rs = within (goal.at.returns-in_ok-try_clone-in-Some c).After-rows in
    let at : slice_get rs c.in-Some.place ≡ Some r = slice_get_read rs (length rs) c.in-Some.place r refl below
    (c.index-rows-place.is ∙ ap (λ xs. get_or xs c.in-Some.place r) c.rows.ensures) in (
      refl,
      c.in_ok-try_clone-in-Some.ensures.1 ∙ ap (λ (x : TableRow). x.key) (sym c.index-rows-place.is)
          ∙ found_is rs c.args.key.now c.in-Some.place r (sym c.requires ∙ c.in-Some.is) at,
    )
