use Rattle.std.proofs.Common.{◌≡◌, drop}
use Rattle.std.specs.Prelude.{slice_get}
use Rattle.exchange.specs.Standings.{left_in}
use Rattle.exchange.proofs.standings.Standings.left_at.Given as goal

abbrev pub invariant-loop-node : goal.invariant-loop-node
invariant-loop-node l = slice_get (left_in l.self (drop l.node-index l.nodes)) l.before ≡ slice_get (left_in l.fn.self l.fn.nodes) l.fn.place
