use Rattle.std.proofs.Common.{◌≡◌, None, length, refl, sym, subst, ap, ◌∙◌, arith, inl, inr}
use Rattle.std.specs.Prelude.{Ok}
use Rattle.std.proofs.lemmas.Result.{err_from_is_err_and}
use Rattle.vclock.specs.declared.format.Format.{Format}
use Rattle.row_bytes.proofs.ManyRowLaws.{rows_read}
use Rattle.range_store.specs.FormatLoads.{newer_fault}
use Rattle.range_store.specs.Loads.{rows_in}
use Rattle.range_store.specs.Offers.{offers_of}
use Rattle.range_store.specs.Store.{Store}
use Rattle.range_store.proofs.LoadLaws.{offers_few}
use Rattle.range_store.proofs.FittingLaws.{or_memory}
use Rattle.range_store.proofs.SpreadLaws.{format_rows, spread_fault, spread_load}
use Rattle.range_store.proofs.store.RangeStore.load_format.Goals as goal

pub spread-requires-clause-few : goal.spread-requires-clause-few
spread-requires-clause-few c =
    let few = offers_few c.args.format c.in_ok-rows.rows c.in_ok-rows.ensures.found.0.each in
    let same = ap length c.as_slice.ensures in
    omega (arith, few, same, ap (λ rows. length (offers_of rows)) c.as_slice.ensures, c.as_slice.type_inv.1)

pub returns-in_err-spread : goal.returns-in_err-spread
returns-in_err-spread c =
    let s = c.args.self.now in
    let rows = c.as_slice.result.now in
    let e = c.in_err-spread.field-0.0 in
    let own : c.format.result ≡ s.config.format = c.format.ensures ∙ ap (λ (u : Store). u.config.format) c.self.view_is in
    let older = subst (λ (f : Format). newer_fault f c.args.format ≡ None) own c.in_ok-check_format.ensures.0 in
    let found : rows_in c.args.format c.args.text.now ≡ Ok rows = rows_read c.args.format c.args.text.now c.in_ok-rows.rows
    c.in_ok-rows.ensures.found.0 c.in_ok-rows.ensures.found.1 ∙ ap (λ rs. Ok rs) (sym c.as_slice.ensures) in
    let p = err_from_is_err_and c.from_residual-in_err-spread.result c.from_residual-in_err-spread.ensures.1 in
    rw (p.1, p.2) (
      refl,
      elim c.in_err-spread.ensures [
        | inl memory ↦ inl memory
        | inr fault ↦ inr (format_rows s c.args.seat c.args.format c.args.text.now rows older found ∙ spread_fault s c.args.seat rows e fault)
      ],
    )

pub returns : goal.returns
returns c =
    let s = c.args.self.now in
    let rows = c.as_slice.result.now in
    let own : c.format.result ≡ s.config.format = c.format.ensures ∙ ap (λ (u : Store). u.config.format) c.self.view_is in
    let older = subst (λ (f : Format). newer_fault f c.args.format ≡ None) own c.in_ok-check_format.ensures.0 in
    let found : rows_in c.args.format c.args.text.now ≡ Ok rows = rows_read c.args.format c.args.text.now c.in_ok-rows.rows
    c.in_ok-rows.ensures.found.0 c.in_ok-rows.ensures.found.1 ∙ ap (λ rs. Ok rs) (sym c.as_slice.ensures) in
    or_memory c.accept_spread.result s c.accept_spread.new.self _ _ (format_rows s c.args.seat c.args.format c.args.text.now rows older found
    ∙ spread_load s c.args.seat rows c.in_ok-spread.spread c.in_ok-spread.ensures.1)
    (c.accept_spread.ensures c.args.seat rows c.in_ok-spread.ensures.1)
