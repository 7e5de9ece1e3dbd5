use Rattle.std.proofs.Common.{◌≡◌, ◌+◌, ℕ, List, length}
use Rattle.text_patch.proofs.WayLaws.{IsOnTheWay}
use Rattle.text_patch.proofs.reader.measure.Given as goal

abbrev pub invariant-steps : goal.invariant-steps
invariant-steps l = (done : List ℕ) × IsOnTheWay l.parts l.from l.rest l.steps done × (l.len ≡ 1 + length done)

abbrev pub decreases-steps : goal.decreases-steps
decreases-steps l = length l.rest
