use Rattle.sync_session.proofs.CountLaws.{orderly_started, orderly_after}
use Rattle.sync_session.proofs.laws.a_walk_stays_orderly.Goals as goal

pub returns : goal.returns
returns c = record { started = orderly_started; taken = orderly_after }
