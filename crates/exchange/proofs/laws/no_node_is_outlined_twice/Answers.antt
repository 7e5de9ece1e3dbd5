use Rattle.exchange.proofs.OnceLaws.{outlined_once}
use Rattle.exchange.proofs.OutlineStepLaws.{sent_once}
use Rattle.exchange.proofs.laws.no_node_is_outlined_twice.Goals as goal

pub returns : goal.returns
returns c = record { first = outlined_once; few = sent_once }
