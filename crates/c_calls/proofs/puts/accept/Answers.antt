use Rattle.std.proofs.Common.{◌≡◌, Some, ap, subst, ◌∙◌, refl, inr}
use Rattle.std.proofs.lemmas.Result.{err_from_is_err_and}
use Rattle.vclock.specs.declared.format.Format.{Format}
use Rattle.range_store.specs.Config.{Config}
use Rattle.range_store.specs.Store.{Store}
use Rattle.c_calls.specs.Pairs.{clock_pairs}
use Rattle.c_calls.specs.Puts.{parts_fault}
use Rattle.c_calls.proofs.PartLaws.{accept_refused}
use Rattle.c_calls.proofs.puts.accept.Goals as goal

pub returns-in_err-kind-clause-does : goal.returns-in_err-kind-clause-does
returns-in_err-kind-clause-does c =
    let s = c.args.state.now in
    let e = c.in_err-kind.field-0.0 in
    let p = err_from_is_err_and c.from_residual.result c.from_residual.ensures.1 in
    let own = c.format.ensures ∙ ap (λ (x : Config). x.format) c.config.ensures ∙ ap (λ (x : Store). x.config.format) c.store.ensures.store in
    let fault = subst (λ (f : Format). parts_fault f c.args.key.now (clock_pairs c.args.clock.now) c.args.kind c.args.value.now ≡ Some e) own
    c.in_err-kind.ensures.answers in
    rw (p.1, p.2) (refl, inr (accept_refused s c.args.key.now (clock_pairs c.args.clock.now) c.args.kind c.args.value.now e fault))
