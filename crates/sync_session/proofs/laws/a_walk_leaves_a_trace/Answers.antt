use Rattle.sync_session.proofs.TraceLaws.{traced, traced_failed, traced_cancelled}
use Rattle.sync_session.proofs.laws.a_walk_leaves_a_trace.Goals as goal

pub returns : goal.returns
returns c = record { going = traced; failed = traced_failed; cancelled = λ w. traced_cancelled w w.state }
