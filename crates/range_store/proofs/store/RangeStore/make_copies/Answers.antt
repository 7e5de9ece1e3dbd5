use Rattle.std.proofs.Common.{◌≡◌, List, sym, ap, subst, ◌∙◌}
use Rattle.range_journal.specs.declared.journal.Entry.{Entry}
use Rattle.range_journal.specs.Copies.{as_copies}
use Rattle.range_journal.specs.Log.{Log}
use Rattle.range_store.specs.Store.{Store, IsSound, rows_now}
use Rattle.range_store.specs.TableRows.{IsTableOf}
use Rattle.range_store.proofs.CopyLaws.{copies_rows_now, copies_sound, copies_table}
use Rattle.range_store.proofs.store.RangeStore.make_copies.Goals as goal

pub invariant_of-self : goal.invariant_of-self
invariant_of-self c =
    let s : Store = record { config = c.self.inside.config; entries = c.self.inside.journal.entries; marks = c.self.inside.tree.marks } in
    let made = ap (λ (log : Log). log.entries) c.make_copies.ensures in
    let held : (es : List Entry) → es ≡ as_copies s.entries → IsSound (record { config = s.config; entries = es; marks = s.marks })
    × (c.self.inside.tree.map ≡ rows_now (record { config = s.config; entries = es; marks = s.marks }))
    × IsTableOf s.config.bits s.config.range es c.self.inside.table.rows =
    λ es is. subst (λ (xs : List Entry). IsSound (record { config = s.config; entries = xs; marks = s.marks })
    × (c.self.inside.tree.map ≡ rows_now (record { config = s.config; entries = xs; marks = s.marks }))
    × IsTableOf s.config.bits s.config.range xs c.self.inside.table.rows) (sym is) (
      copies_sound s c.self.invariant.0,
      c.self.invariant.1
          ∙ copies_rows_now s,
      copies_table s.config.bits s.config.range s.entries c.self.inside.table.rows c.self.invariant.3,
    ) in
    let now = held c.make_copies.new.self.entries made in
    (now.0, now.1, ap (λ (log : Log). log.limit) c.make_copies.ensures ∙ c.self.invariant.2, now.2)
