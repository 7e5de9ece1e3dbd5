use Rattle.std.proofs.Common.{refl, inr}
use Rattle.std.proofs.lemmas.Result.{err_from_is_err_and}
use Rattle.range_store.proofs.FittingLaws.{sent_refused}
use Rattle.range_store.proofs.store.RangeStore.accept_into.Goals as goal

pub returns-in_err-home-clause-accepts : goal.returns-in_err-home-clause-accepts
returns-in_err-home-clause-accepts c =
    let p = err_from_is_err_and c.from_residual.result c.from_residual.ensures.1 in
    rw (p.1, p.2) (
      refl,
      inr
          (sent_refused c.args.self.now c.args.seat c.args.source c.args.key.now c.args.version c.in_err-home.field-0.0 c.in_err-home.ensures),
    )
