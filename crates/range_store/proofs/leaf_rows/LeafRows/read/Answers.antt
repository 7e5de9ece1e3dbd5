use Rattle.std.proofs.Common.{length, refl, sym, ap, ◌∙◌, inr}
use Rattle.std.proofs.lemmas.Result.{err_from_is_err_and}
use Rattle.range_store.specs.Loads.{apart_fault, first_leaf, read_fault}
use Rattle.range_store.proofs.LoadLaws.{leaf_rows, rows_found}
use Rattle.range_store.proofs.leaf_rows.LeafRows.read.Goals as goal

pub returns-in_err-leaf : goal.returns-in_err-leaf
returns-in_err-leaf c =
    let config = c.args.config in
    let text = c.args.text.now in
    let rows = c.in_ok-rows.rows in
    let found = rows_found config c.format.result text rows c.format.ensures c.in_ok-rows.ensures.found.0 c.in_ok-rows.ensures.found.1 in
    let p = err_from_is_err_and c.from_residual-in_err-leaf.result c.from_residual-in_err-leaf.ensures.1 in
    rw (p.1, p.2) (inr (ap (read_fault config (length text)) found ∙ ap (apart_fault config) (sym c.as_slice.ensures) ∙ c.in_err-leaf.ensures.leaf))

pub invariant_of-result : goal.invariant_of-result
invariant_of-result c =
    let config = c.args.config in
    let rows = c.in_ok-rows.rows in
    leaf_rows config c.format.result c.in_ok-leaf.leaf rows c.format.ensures c.in_ok-rows.ensures.found.0 c.in_ok-leaf.ensures.inside
    (c.in_ok-leaf.ensures.leaf.1 ∙ ap (first_leaf config) c.as_slice.ensures)
    (ap (apart_fault config) (sym c.as_slice.ensures) ∙ c.in_ok-leaf.ensures.leaf.0)

pub returns : goal.returns
returns c =
    let config = c.args.config in
    let text = c.args.text.now in
    let rows = c.in_ok-rows.rows in
    let found = rows_found config c.format.result text rows c.format.ensures c.in_ok-rows.ensures.found.0 c.in_ok-rows.ensures.found.1 in (
      ap (read_fault config (length text)) found ∙ ap (apart_fault config) (sym c.as_slice.ensures) ∙ c.in_ok-leaf.ensures.leaf.0,
      (refl, c.in_ok-leaf.ensures.leaf.1 ∙ ap (first_leaf config) c.as_slice.ensures, found),
    )
