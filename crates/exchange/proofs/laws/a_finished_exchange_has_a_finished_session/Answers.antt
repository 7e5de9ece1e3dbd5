use Rattle.exchange.proofs.JudgedLaws.{finished_with}
use Rattle.exchange.proofs.laws.a_finished_exchange_has_a_finished_session.Goals as goal

pub returns : goal.returns
returns c = finished_with
