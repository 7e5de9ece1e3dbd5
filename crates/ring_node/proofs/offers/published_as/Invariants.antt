use Rattle.std.proofs.Common.{◌≡◌, ◌==◌, drop}
use Rattle.std.specs.Prelude.{find}
use Rattle.ring_node.specs.Offers.{Offered}
use Rattle.ring_node.proofs.offers.published_as.Given as goal

abbrev pub invariant-loop-published : goal.invariant-loop-published
invariant-loop-published l =
    find (λ (p : Offered). p.number == l.number) l.kept ≡ find (λ (p : Offered). p.number == l.number) (drop l.published-index l.kept)
