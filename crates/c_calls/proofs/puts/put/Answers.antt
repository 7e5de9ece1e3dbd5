use Rattle.std.proofs.Common.{◌≡◌, Some, ap, subst, ◌∙◌, refl, inr}
use Rattle.std.proofs.lemmas.Result.{err_from_is_err_and}
use Rattle.vclock.specs.Outcome.{through}
use Rattle.vclock.specs.declared.format.Format.{Format}
use Rattle.range_store.specs.Config.{Config}
use Rattle.range_store.specs.Store.{Store}
use Rattle.range_state.specs.State.{State}
use Rattle.c_calls.specs.Kept.{with_state}
use Rattle.c_calls.specs.Pairs.{clock_pairs}
use Rattle.c_calls.specs.Puts.{parts_fault}
use Rattle.c_calls.proofs.PartLaws.{put_refused}
use Rattle.c_calls.proofs.puts.put.Goals as goal

pub returns-in_err-kind-clause-does : goal.returns-in_err-kind-clause-does
returns-in_err-kind-clause-does c =
    let k = c.args.kept.now in
    let s = k.state in
    let e = c.in_err-kind.field-0.0 in
    let p = err_from_is_err_and c.from_residual-in_err-kind.result c.from_residual-in_err-kind.ensures.1 in
    let own = c.format.ensures ∙ ap (λ (x : Config). x.format) c.config.ensures ∙ ap (λ (x : Store). x.config.format) c.store.ensures.store
    ∙ ap (λ (x : State). x.store.config.format) c.state.ensures in
    let fault = subst (λ (f : Format). parts_fault f c.args.key.now (clock_pairs c.args.context.now) c.args.kind c.args.value.now ≡ Some e) own
    c.in_err-kind.ensures.answers in
    rw (p.1, p.2) (
      refl,
      inr
          (ap (through (with_state k))
          (put_refused c.args.test s c.args.node c.args.key.now
          (clock_pairs c.args.context.now) c.args.kind c.args.value.now e c.in_ok-node.ensures.0 fault)),
    )
