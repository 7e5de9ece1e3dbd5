use Rattle.exchange.specs.Standings.{standing_of}
use Rattle.exchange.proofs.StepLaws.{next_is, may_isnt}
use Rattle.exchange.proofs.laws.no_node_is_in_flight_twice.Goals as goal

pub returns : goal.returns
returns c = λ x w n bytes e. may_isnt (standing_of x.standings n) (next_is x w (n, bytes) e).may
