use Rattle.std.proofs.Common.{◌≡◌, ◌+◌, ◌<◌, length}
use Rattle.std.specs.Prelude.{MatchOption, ⊤}
use Rattle.tree_nodes.specs.Nodes.{ready_from}
use Rattle.tree_nodes.proofs.ReadyLaws.{ready_at}
use Rattle.tree_nodes.proofs.marks.Marks.ready_count.Given as goal

abbrev pub invariant-loop-next : goal.invariant-loop-next
invariant-loop-next l = record {
  all : l.found + length (ready_at l.self.digests l.next) ≡ length (ready_from l.self.digests 0);
  inside : MatchOption l.next ⊤ (λ place. place < length l.self.digests);
}

abbrev pub decreases-loop-next : goal.decreases-loop-next
decreases-loop-next l = length (ready_at l.self.digests l.next)
