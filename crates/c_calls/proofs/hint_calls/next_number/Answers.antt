use Rattle.std.proofs.Common.{◌∙◌}
use Rattle.c_calls.proofs.NextLaws.{no_next}
use Rattle.c_calls.proofs.hint_calls.next_number.Goals as goal

pub returns-in_err-after : goal.returns-in_err-after
returns-in_err-after c = c.from_residual-in_err-after.ensures
    ∙ no_next c.args.before c.args.store.now c.args.owner c.args.after c.in_err-after.ensures.valid.numbered c.in_err-after.ensures.place
