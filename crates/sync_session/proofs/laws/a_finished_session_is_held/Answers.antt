use Rattle.sync_session.proofs.DescentLaws.{finished_held}
use Rattle.sync_session.proofs.laws.a_finished_session_is_held.Goals as goal

pub returns : goal.returns
returns c = finished_held
