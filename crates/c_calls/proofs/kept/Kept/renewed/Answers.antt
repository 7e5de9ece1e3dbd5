use Rattle.std.proofs.Common.{length, ap, arith}
use Rattle.range_store.proofs.RenewLaws.{renewed_fewer}
use Rattle.range_state.specs.State.{State}
use Rattle.c_calls.specs.Kept.{KeptState}
use Rattle.c_calls.proofs.kept.Kept.renewed.Goals as goal

pub overflow_sub-first : goal.overflow_sub-first
overflow_sub-first c =
    let s = c.self.inside.state in
    omega (
      arith,
      c.len.ensures.count,
      ap length c.journal.ensures.entries,
      ap (λ (t : State). length t.store.entries) c.in_ok-state.ensures.1,
      c.entries-renewed.ensures.count,
      ap (λ (k : KeptState). length k.state.store.entries) c.self.view_is,
      renewed_fewer s.store 0 c.args.limit,
    )
