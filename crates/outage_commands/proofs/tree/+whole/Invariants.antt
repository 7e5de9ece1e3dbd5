use Rattle.std.proofs.Common.{◌≡◌, drop, length}
use Rattle.json.specs.Tree.{json_tokens, items_tokens, members_tokens}
use Rattle.json.specs.Value.{value_view, items_view, members_view}
use Rattle.outage_commands.specs.Trees.{items_are_whole, members_are_whole}
use Rattle.outage_commands.proofs.tree.+whole.Given as goal

abbrev pub decreases-is_whole : goal.decreases-is_whole
decreases-is_whole l = length (json_tokens (value_view l.value.now))

abbrev pub decreases-items_are_whole : goal.decreases-items_are_whole
decreases-items_are_whole l = length (items_tokens (items_view l.items.now.items))

abbrev pub decreases-members_are_whole : goal.decreases-members_are_whole
decreases-members_are_whole l = length (members_tokens (members_view l.members.now.items))

abbrev pub invariant-items_are_whole-loop-item : goal.invariant-items_are_whole-loop-item
invariant-items_are_whole-loop-item l = items_are_whole (items_view (drop l.item-index l.item-items)) ≡ items_are_whole (items_view l.item-items)

abbrev pub invariant-members_are_whole-loop-member : goal.invariant-members_are_whole-loop-member
invariant-members_are_whole-loop-member l =
    members_are_whole (members_view (drop l.member-index l.member-items)) ≡ members_are_whole (members_view l.member-items)
