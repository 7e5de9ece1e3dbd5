use Rattle.std.proofs.Common.{◌≡◌, drop}
use Rattle.exchange.specs.Standings.{first_askable}
use Rattle.exchange.proofs.standings.Standings.first_askable.Given as goal

abbrev pub invariant-loop-node : goal.invariant-loop-node
invariant-loop-node l = first_askable l.self (drop l.node-index l.nodes) ≡ first_askable l.fn.self l.fn.nodes
