use Rattle.std.proofs.Common.{length, ap, subst, sym, ◌∙◌}
use Rattle.range_store.specs.Store.{Store}
use Rattle.caller_pass.proofs.LockLaws.{opened_beside}
use Rattle.caller_pass.proofs.GrowthLaws.{AreSeated}
use Rattle.caller_pass.proofs.locked_range.LockedRange.open_session.Goals as goal

pub invariant_of-self : goal.invariant_of-self
invariant_of-self g c =
    let same = opened_beside c.self.inside.state c.open_session-id.new.self c.args.partner c.args.offer c.open_session-id.result
    c.open_session-id.ensures in
    record {
      right = c.journal-right.ensures.valid;
      counted = c.self.invariant.counted ∙ ap (λ (s : Store). length s.entries) (sym same);
      seated = subst (λ (s : Store). AreSeated g.L.Ledger.parts s.entries) (sym same) c.self.invariant.seated;
    }
