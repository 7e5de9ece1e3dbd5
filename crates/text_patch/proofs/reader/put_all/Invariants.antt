use Rattle.std.proofs.Common.{◌≡◌, ◌++◌, take}
use Rattle.tree_nodes.specs.Blocks.{joined}
use Rattle.text_patch.proofs.reader.put_all.Given as goal

abbrev pub invariant-loop-part : goal.invariant-loop-part
invariant-loop-part l = l.out.items ≡ l.initial.out.items ++ joined (take l.part-index l.parts)
