use Rattle.ring_node.proofs.DueHints.{found_is_for}
use Rattle.ring_node.proofs.hints.SharedHints.next.Goals as goal

pub returns-clause-found : goal.returns-clause-found
returns-clause-found g c = found_is_for c.args.owner c.args.after c.deref-2.result.now c.next.result c.next.ensures
