use Rattle.ring_node.proofs.range.SharedRange.close.Goals as goal

pub returns-in-Ok-clause-settled : goal.returns-in-Ok-clause-settled
returns-in-Ok-clause-settled g c = rw c.in-Ok.ensures.closed.0 c.in-Ok.ensures.settled
