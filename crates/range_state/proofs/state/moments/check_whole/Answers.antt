use Rattle.std.proofs.Common.{ap, cond, Some, None, arith}
use Rattle.vclock.specs.declared.refusal.Refusal.TheVariants.{Dirty}
use Rattle.range_state.proofs.ReconcileLaws.{none_dirty, some_dirty}
use Rattle.range_state.proofs.state.moments.check_whole.Goals as goal

pub returns-then-dirty_count-gt0 : goal.returns-then-dirty_count-gt0
returns-then-dirty_count-gt0 c = ap (λ b. cond b None (Some Dirty)) (some_dirty c.args.tree.now.marks (omega (arith, c.dirty_count.ensures.count)))

pub returns : goal.returns
returns c = (ap (λ b. cond b None (Some Dirty)) (none_dirty c.args.tree.now.marks (omega (arith, c.dirty_count.ensures.count))), tt)
