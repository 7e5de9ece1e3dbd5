use Rattle.std.proofs.Common.{refl, inr}
use Rattle.std.proofs.lemmas.Result.{err_from_is_err_and}
use Rattle.c_calls.specs.Carried.{carried}
use Rattle.c_calls.specs.Pairs.{clock_pairs}
use Rattle.c_calls.proofs.PartLaws.{keep_refused}
use Rattle.c_calls.proofs.hint_calls.keep.Goals as goal

pub returns-in_err-kind : goal.returns-in_err-kind
returns-in_err-kind c =
    let s = carried c.args.before c.args.store.now in
    let e = c.in_err-kind.field-0.0 in
    let p = err_from_is_err_and c.from_residual-in_err-kind.result c.from_residual-in_err-kind.ensures.1 in
    rw (p.1, p.2) (
      refl,
      inr
          (keep_refused s c.args.owner c.args.key.now
          (clock_pairs c.args.clock.now) c.args.kind c.args.value.now e c.in_ok-owner.ensures.0 c.in_err-kind.ensures.answers),
    )
