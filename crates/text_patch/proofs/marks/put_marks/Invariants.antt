use Rattle.std.proofs.Common.{◌≡◌, ◌++◌, take}
use Rattle.std.specs.List.{flat_map}
use Rattle.text_patch.specs.Marks.{mark_of}
use Rattle.text_patch.proofs.marks.put_marks.Given as goal

abbrev pub invariant-loop-part : goal.invariant-loop-part
invariant-loop-part l = l.out.items ≡ l.initial.out.items ++ flat_map (mark_of l.salt l.width) (take l.part-index l.parts)
