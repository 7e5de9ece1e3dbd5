use Rattle.std.proofs.Common.{refl, inl, inr}
use Rattle.std.proofs.lemmas.Result.{err_from_is_err_and}
use Rattle.range_store.proofs.FittingLaws.{put_admits, put_refused}
use Rattle.range_store.proofs.store.RangeStore.put.Goals as goal

pub returns-in_err-home-clause-puts : goal.returns-in_err-home-clause-puts
returns-in_err-home-clause-puts c =
    let p = err_from_is_err_and c.from_residual.result c.from_residual.ensures.1 in
    rw (p.1, p.2) (
      refl,
      elim c.in_err-home.ensures.made [
        | inl none ↦ inl none
        | inr fault ↦ inr (put_refused c.args.test c.args.self.now c.args.seat c.args.at c.args.key.now c.args.context.now c.args.kind c.args.value
            c.in_err-home.field-0.0 (rw c.new-hashed.ensures at fault))
      ],
    )

pub returns-clause-puts : goal.returns-clause-puts
returns-clause-puts c =
    let none = rw c.new-hashed.ensures at c.in_ok-home.ensures.made.0 in
    put_admits c.args.test c.args.self.now c.admit.new.self c.args.seat c.args.at c.args.key.now c.args.context.now c.args.kind c.args.value
    c.in_ok-home.version c.admit.result none c.in_ok-home.ensures.made.1.1 c.admit.ensures.admits
