use Rattle.std.proofs.Common.{◌≡◌, ap, arith}
use Rattle.hint_store.specs.Hints.{pending_count}
use Rattle.hint_store.proofs.WaitLaws.{waiting_count}
use Rattle.hint_store.proofs.store.HintStore.pending.Goals as goal

pub overflow_cast-result : goal.overflow_cast-result
overflow_cast-result c =
    let count = waiting_count c.self.inside.hints.items c.self.inside.pending.items c.self.invariant.1 in
    omega (arith, count, c.self.invariant.0.few, c.len.ensures)

pub returns-clause-count : goal.returns-clause-count
returns-clause-count c =
    let count = waiting_count c.self.inside.hints.items c.self.inside.pending.items c.self.invariant.1 in
    let seen : pending_count c.self.inside.hints.items ≡ pending_count c.args.self.now = ap pending_count c.self.view_is in
    omega (arith, c.len.ensures, count, seen)
