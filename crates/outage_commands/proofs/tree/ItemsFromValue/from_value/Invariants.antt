use Rattle.std.proofs.Common.{◌≡◌, ◌++◌, drop, option_map}
use Rattle.json.specs.Value.{items_view}
use Rattle.outage_commands.specs.Reading.{each_of}
use Rattle.outage_commands.specs.Trees.{items_data}
use Rattle.outage_commands.proofs.tree.ItemsFromValue.from_value.Given as goal

-- what was read so far, and what is left, is what all items are
abbrev pub invariant-loop-item : goal.invariant-loop-item
invariant-loop-item g l =
    option_map (λ more. l.list.items ++ more)
    (each_of g.T.FromValue.reads (items_data (items_view (drop l.item-index l.item-items)))) ≡ each_of g.T.FromValue.reads
    (items_data (items_view l.item-items))
