use Rattle.std.proofs.Common.{ℕ, ◌≤◌, ◌≡◌, ◌+◌, ◌-◌, ◌^◌, ◌++◌, List, length, length-append, subst, sym, arith, ap, ◌∙◌}
use Rattle.std.specs.Prelude.{min}
use Rattle.range_journal.specs.declared.journal.Entry.{Entry}
use Rattle.range_journal.specs.Log.{Log, AreNumberedFrom}
use Rattle.range_journal.specs.Sizes.{entries_len}
use Rattle.range_journal.proofs.SizeLaws.{appended_len}
use Rattle.range_journal.proofs.JournalLaws.{AreNumberedFrom-append}
use Rattle.range_journal.proofs.journal.Journal.append_entries.Goals as goal

pub invariant_of-self : goal.invariant_of-self
invariant_of-self c =
    let items : c.append.new.self.items ≡ c.self.inside.entries.items ++ c.args.entries.items = rw c.unwrap.ensures at c.append.ensures.items in
    let grown : length c.append.new.self.items ≡ length c.self.inside.entries.items + length c.args.entries.items = ap length items
    ∙ length-append c.self.inside.entries.items c.args.entries.items in
    let few : length c.args.entries.items ≤ c.self.inside.room = subst (λ (r : ℕ). length c.args.entries.items ≤ r)
    (sym (ap (λ (l : Log). l.room) c.self.view_is)) c.requires.room in
    let count : length c.args.self.now.entries ≡ 0 + length c.self.inside.entries.items = omega
    (arith, ap (λ (l : Log). length l.entries) c.self.view_is) in
    let next = subst (λ (n : ℕ). AreNumberedFrom n c.args.entries.items) count c.requires.numbered in (
      record {
        numbered = subst (AreNumberedFrom 0) (sym items)
            (AreNumberedFrom-append 0 c.self.inside.entries.items c.args.entries.items c.self.invariant.0.numbered next);
        within = omega (arith, grown, few, c.len.ensures);
        small = c.self.invariant.0.small;
      },
      omega (arith, grown, few, c.len.ensures),
      appended_len c.self.inside.entries.items c.args.entries.items _ _ _ c.self.invariant.2
          (c.len_of.ensures ∙ ap (λ (es : List Entry). min (entries_len es) (2 ^ 64 - 1)) c.deref.ensures.value) c.saturating_add-self-inside.ensures
          ∙ ap (λ (es : List Entry). min (entries_len es) (2 ^ 64 - 1)) (sym items),
    )
