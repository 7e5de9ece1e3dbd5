use Rattle.std.proofs.Common.{ℕ, ◌≤◌, ◌≡◌, ◌+◌, ◌-◌, ◌^◌, List, length, subst, sym, arith, ap, ◌∙◌}
use Rattle.std.specs.Prelude.{min}
use Rattle.std.proofs.lemmas.List.{length_push}
use Rattle.range_journal.specs.declared.journal.Entry.{Entry}
use Rattle.range_journal.specs.Log.{Log, AreNumberedFrom}
use Rattle.range_journal.specs.Sizes.{entries_len}
use Rattle.range_journal.proofs.SizeLaws.{pushed_len}
use Rattle.range_journal.proofs.JournalLaws.{AreNumberedFrom-push}
use Rattle.range_journal.proofs.journal.Journal.append_reserved.Goals as goal

pub invariant_of-self : goal.invariant_of-self
invariant_of-self c =
    let items = rw c.unwrap.ensures at c.push.ensures.items in
    let grown : length c.push.new.self.items ≡ length c.self.inside.entries.items + 1 = ap length items ∙ length_push c.self.inside.entries.items _ in
    let count : c.len-number.result ≡ length c.self.inside.entries.items = c.len-number.ensures.count
    ∙ sym (ap (λ (l : Log). length l.entries) c.self.view_is) in
    let room : 1 ≤ c.self.inside.room = subst (λ (r : ℕ). 1 ≤ r) (sym (ap (λ (l : Log). l.room) c.self.view_is)) c.requires in (
      record {
        numbered = subst (AreNumberedFrom 0) (sym items)
            (AreNumberedFrom-push 0 c.self.inside.entries.items _ c.self.invariant.0.numbered (omega (arith, count)));
        within = omega (arith, grown);
        small = c.self.invariant.0.small;
      },
      omega (arith, grown),
      pushed_len c.self.inside.entries.items _ _ _ _ c.self.invariant.2 c.len.ensures c.saturating_add-self-inside.ensures
          ∙ ap (λ (es : List Entry). min (entries_len es) (2 ^ 64 - 1)) (sym items),
    )
