use Rattle.std.proofs.Common.{◌≡◌, drop}
use Rattle.key_ring.specs.Ring.{repeats_number}
use Rattle.key_ring.proofs.ring.has_repeat.Given as goal

abbrev pub invariant-loop-i : goal.invariant-loop-i
invariant-loop-i l = repeats_number (drop l.i l.nodes) ≡ repeats_number l.nodes
