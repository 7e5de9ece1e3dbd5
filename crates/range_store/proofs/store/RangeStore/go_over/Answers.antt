use Rattle.std.proofs.Common.{◌≡◌, sym, ap, subst, ◌∙◌}
use Rattle.vclock.specs.Outcome.{gives}
use Rattle.vclock.specs.declared.format.Format.TheVariants.{One}
use Rattle.range_store.specs.Config.{Config}
use Rattle.range_store.specs.Store.{Store}
use Rattle.range_store.specs.Migrates.{in_two}
use Rattle.range_store.specs.Replays.{IsReplay}
use Rattle.range_store.specs.TableRows.{IsTableOf}
use Rattle.range_store.proofs.MigrateLaws.{replay_in_two, went_over}
use Rattle.range_store.proofs.store.RangeStore.go_over.Goals as goal

pub tree_of-requires : goal.tree_of-requires
tree_of-requires c =
    let s : Store = record { config = c.self.inside.config; entries = c.self.inside.journal.entries; marks = c.self.inside.tree.marks } in
    let one : s.config.format ≡ One = ap (λ (t : Store). t.config.format) c.self.view_is ∙ c.requires in
    subst IsReplay (λ i. record { config = sym c.in_format_2-config.ensures i; entries = sym c.entries.ensures.value i; front = 0 })
    (replay_in_two s c.self.invariant.0 one)

pub invariant_of-self : goal.invariant_of-self
invariant_of-self c =
    let s : Store = record { config = c.self.inside.config; entries = c.self.inside.journal.entries; marks = c.self.inside.tree.marks } in
    let one : s.config.format ≡ One = ap (λ (t : Store). t.config.format) c.self.view_is ∙ c.requires in
    let config = c.in_format_2-config.ensures in
    let over = went_over s c.in_format_2-config.result c.entries.result.now c.in_ok-tree.tree c.self.invariant.0 one config c.entries.ensures.value
    c.in_ok-tree.ensures.1 in
    let table = subst (λ (x : Config). IsTableOf x.bits x.range c.self.inside.journal.entries c.self.inside.table.rows)
    (sym config) c.self.invariant.3 in
    (over.0, over.1, c.self.invariant.2 ∙ ap (λ (x : Config). x.limit) (sym config), table)

pub returns : goal.returns
returns c =
    let s : Store = record { config = c.self.inside.config; entries = c.self.inside.journal.entries; marks = c.self.inside.tree.marks } in
    let one : s.config.format ≡ One = ap (λ (t : Store). t.config.format) c.self.view_is ∙ c.requires in
    let over = went_over s c.in_format_2-config.result c.entries.result.now c.in_ok-tree.tree c.self.invariant.0 one c.in_format_2-config.ensures
    c.entries.ensures.value c.in_ok-tree.ensures.1 in
    ap (gives tt) (ap in_two (sym c.self.view_is) ∙ sym over.2)
