use Rattle.std.proofs.Common.{◌≡◌, take}
use Rattle.key_ring.proofs.ring.Ring.new.Given as goal

abbrev pub invariant-loop-node : goal.invariant-loop-node
invariant-loop-node l = l.kept.items ≡ take l.node-index l.nodes
