use Rattle.std.proofs.Common.{◌≡◌, ap, sym, ◌∙◌, refl}
use Rattle.std.specs.Option.{ok_or}
use Rattle.std.proofs.lemmas.Result.{err_from_is_err_and}
use Rattle.vclock.specs.Outcome.{gives, refuses}
use Rattle.vclock.specs.declared.refusal.Refusal.TheVariants.{UnknownHint}
use Rattle.hint_store.proofs.HintLaws.{open_owner, settle_open, settle_none}
use Rattle.hint_store.proofs.store.HintStore.settle.Goals as goal

pub returns-in_err-owner : goal.returns-in_err-owner
returns-in_err-owner c =
    let p = err_from_is_err_and c.from_residual.result c.from_residual.ensures.1 in
    let none = c.in_err-owner.ensures.ok_part in
    let cause : c.in_err-owner.field-0.0 ≡ UnknownHint = cc (c.in_err-owner.ensures.value, ap (λ o. ok_or o UnknownHint) none) in
    let settled = settle_none c.args.self.now c.args.id c.args.known c.pending-valid.ensures.valid.numbered (sym c.waiting_owner.ensures ∙ none) in
    rw (p.1, p.2) (refl, settled ∙ ap refuses (sym cause))

pub returns : goal.returns
returns c =
    let owner = open_owner c.args.self.now c.args.id c.in_ok-owner.owner (sym c.waiting_owner.ensures ∙ c.in_ok-owner.ensures.ok_part) in
    settle_open c.args.self.now c.args.id c.in_ok-owner.owner c.args.known c.pending-valid.ensures.valid.numbered owner
    ∙ ap (gives tt) (sym c.close.ensures)
