use Rattle.range_state.proofs.SessionResults.{finished}
use Rattle.range_state.proofs.laws.finished_sessions_are_held.Goals as goal

pub returns : goal.returns
returns c = finished
