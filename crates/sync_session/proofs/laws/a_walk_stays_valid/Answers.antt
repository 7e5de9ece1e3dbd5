use Rattle.sync_session.proofs.StepLaws.{walked_started, walked_grows, walked_after, spelled_held}
use Rattle.sync_session.proofs.laws.a_walk_stays_valid.Goals as goal

pub returns : goal.returns
returns c = record { started = walked_started; grows = walked_grows; taken = walked_after; spelled = spelled_held }
