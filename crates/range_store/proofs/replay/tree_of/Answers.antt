use Rattle.std.proofs.Common.{◌∙◌}
use Rattle.range_tree.specs.Trees.{bare}
use Rattle.range_store.proofs.ReplayLaws.{none_replayed}
use Rattle.range_store.proofs.replay.tree_of.Goals as goal

pub invariant_of-replay : goal.invariant_of-replay
invariant_of-replay c = (
  c.requires,
  none_replayed c.args.config c.args.entries.now c.in_ok-empty.field-0
      (c.in_ok-empty.ensures.1 ∙ (λ i. bare (c.format.ensures i) (c.bits.ensures i) (c.range.ensures i))),
)
