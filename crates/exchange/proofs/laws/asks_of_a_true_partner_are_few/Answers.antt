use Rattle.exchange.proofs.TrueLaws.{asks_few}
use Rattle.exchange.proofs.laws.asks_of_a_true_partner_are_few.Goals as goal

pub returns : goal.returns
returns c = asks_few
