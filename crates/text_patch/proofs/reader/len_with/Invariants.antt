use Rattle.std.proofs.Common.{◌≡◌, ◌+◌, length, take}
use Rattle.tree_nodes.specs.Blocks.{joined}
use Rattle.text_patch.proofs.reader.len_with.Given as goal

abbrev pub invariant-loop-part : goal.invariant-loop-part
invariant-loop-part l = l.sum ≡ l.len + length (joined (take l.part-index l.parts))
