use Rattle.std.proofs.Common.{◌≡◌, map}
use Rattle.std.specs.List.{range_with_len}
use Rattle.text_patch.proofs.PartLaws.{child_digest}
use Rattle.text_patch.proofs.parts.digests_of.Given as goal

abbrev pub invariant-loop-number : goal.invariant-loop-number
invariant-loop-number l = l.parts.items ≡ map (child_digest l.own l.fn.node) (range_with_len 0 l.number)
