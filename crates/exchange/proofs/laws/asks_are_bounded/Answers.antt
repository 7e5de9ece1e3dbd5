use Rattle.exchange.proofs.StepLaws.{asks_bounded}
use Rattle.exchange.proofs.laws.asks_are_bounded.Goals as goal

pub returns : goal.returns
returns c = asks_bounded
