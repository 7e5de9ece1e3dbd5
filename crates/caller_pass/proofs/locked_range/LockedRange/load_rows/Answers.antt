use Rattle.std.proofs.Common.{◌≡◌, Some, length, refl, sym, ap, subst, ◌∙◌, inl, inr}
use Rattle.std.proofs.lemmas.Result.{err_from_is_err_and}
use Rattle.vclock.specs.Outcome.{DoesOrNoMemory}
use Rattle.range_store.specs.Config.{Config}
use Rattle.range_store.specs.Loads.{rows_in, read_fault}
use Rattle.range_store.specs.Store.{Store}
use Rattle.caller_pass.proofs.LoadLaws.{unread, was_read}
use Rattle.caller_pass.proofs.locked_range.LockedRange.load_rows.Goals as goal

pub returns-in_err-rows : goal.returns-in_err-rows
returns-in_err-rows g c =
    let e = c.in_err-rows.field-0.0 in
    let text = c.args.text.now in
    let config = c.config.ensures ∙ ap (λ (s : Store). s.config) c.store.ensures.store in
    let p = err_from_is_err_and c.from_residual.result c.from_residual.ensures.1 in
    rw (p.1, p.2) (
      refl,
      elim c.in_err-rows.ensures [
        | inl memory ↦ inl memory
        | inr fault ↦ inr (unread c.args.self.now c.args.pass.now text e
            (subst (λ (x : Config). read_fault x (length text) (rows_in x.format text) ≡ Some e) config fault))
      ],
    )

pub returns : goal.returns
returns g c =
    let text = c.args.text.now in
    let rows = c.in_ok-rows.rows.rows in
    let config = c.config.ensures ∙ ap (λ (s : Store). s.config) c.store.ensures.store in
    let read = ap (λ (x : Config). rows_in x.format text) (sym config) ∙ c.in_ok-rows.ensures.1.2 in
    subst (λ o. DoesOrNoMemory c.load_read.result (c.args.self.now, c.args.pass.now) (c.load_read.new.self, c.load_read.new.pass) o)
    (sym (was_read c.args.self.now c.args.pass.now text rows read)) c.load_read.ensures
