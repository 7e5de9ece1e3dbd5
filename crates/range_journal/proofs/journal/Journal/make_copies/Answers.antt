use Rattle.std.proofs.Common.{◌-◌, ◌^◌, ◌∙◌, List, length, sym, ap, subst, arith}
use Rattle.std.specs.Prelude.{min}
use Rattle.std.proofs.lemmas.List.{length-map}
use Rattle.range_journal.specs.declared.journal.Entry.{Entry}
use Rattle.range_journal.specs.Log.{IsLog}
use Rattle.range_journal.specs.Copies.{as_copy}
use Rattle.range_journal.specs.Sizes.{entries_len}
use Rattle.range_journal.proofs.CopyLaws.{copies_log}
use Rattle.range_journal.proofs.SizeLaws.{copies_len}
use Rattle.range_journal.proofs.journal.Journal.make_copies.Goals as goal

pub invariant_of-self : goal.invariant_of-self
invariant_of-self c =
    let es = c.self.inside.entries.items in
    let made = c.make_copies.ensures.made in
    let log = copies_log (record { entries = es; limit = c.self.inside.limit; room = c.self.inside.room }) c.self.invariant.0 in (
      subst (λ (xs : List Entry). IsLog (record { entries = xs; limit = c.self.inside.limit; room = c.self.inside.room })) (sym made) log,
      omega (arith, c.self.invariant.1, ap length made, length-map es as_copy, c.make_copies.ensures.room),
      c.self.invariant.2 ∙ ap (λ n. min n (2 ^ 64 - 1)) (sym (copies_len es))
          ∙ ap (λ (xs : List Entry). min (entries_len xs) (2 ^ 64 - 1)) (sym made),
    )
