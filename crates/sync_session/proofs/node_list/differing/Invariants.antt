use Rattle.std.proofs.Common.{◌≡◌}
use Rattle.sync_session.specs.Walks.{differing}
use Rattle.sync_session.proofs.node_list.differing.Given as goal

abbrev pub invariant-loop-j : goal.invariant-loop-j
invariant-loop-j l = l.nodes.items ≡ differing l.fn.own l.fn.node l.fn.text l.j
