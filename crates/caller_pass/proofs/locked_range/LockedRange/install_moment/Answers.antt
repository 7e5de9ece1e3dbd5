use Rattle.std.proofs.Common.{List, length, ap, subst, sym, ◌∙◌}
use Rattle.range_journal.specs.declared.journal.Entry.{Entry}
use Rattle.caller_pass.proofs.LockLaws.{hashed_beside}
use Rattle.caller_pass.proofs.GrowthLaws.{AreSeated}
use Rattle.caller_pass.proofs.locked_range.LockedRange.install_moment.Goals as goal

pub invariant_of-self : goal.invariant_of-self
invariant_of-self g c =
    let same = hashed_beside c.self.inside.state c.install_moment-installed.new.self c.args.node c.args.hashed.now c.install_moment-installed.result
    c.install_moment-installed.ensures in
    record {
      right = c.journal-right.ensures.valid;
      counted = c.self.invariant.counted ∙ ap length (sym same);
      seated = subst (λ (es : List Entry). AreSeated g.L.Ledger.parts es) (sym same) c.self.invariant.seated;
    }
