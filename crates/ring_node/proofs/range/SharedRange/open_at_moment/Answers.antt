use Rattle.std.proofs.Common.{rules}
use Rattle.ring_node.proofs.range.SharedRange.open_at_moment.Goals as goal

pub returns-clause-moment : goal.returns-clause-moment
returns-clause-moment g c =
    record { before = c.deref_mut.result.now; after = c.open_session_at_moment.new.self; right = search rules; step = search rules }
