use Rattle.std.proofs.Common.{length, ap, arith}
use Rattle.c_calls.specs.Kept.{KeptState}
use Rattle.c_calls.proofs.RenewalLaws.{no_longer}
use Rattle.c_calls.proofs.kept.Kept.replace_by.Goals as goal

pub overflow_sub-self : goal.overflow_sub-self
overflow_sub-self c =
    let less = no_longer c.args.renewal c.self.inside.state c.finish.new.range c.requires c.in_ok-old.ensures.done.1 in
    omega (
      arith,
      less,
      c.len.ensures.count,
      ap length c.journal.ensures.entries,
      c.entries-entries.ensures.count,
      ap (λ (k : KeptState). length k.state.store.entries) c.self.view_is,
    )
