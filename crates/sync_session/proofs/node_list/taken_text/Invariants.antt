use Rattle.std.proofs.Common.{◌≡◌, drop}
use Rattle.sync_session.specs.Walks.{taken_at}
use Rattle.sync_session.proofs.node_list.taken_text.Given as goal

abbrev pub invariant-loop-entry : goal.invariant-loop-entry
invariant-loop-entry l = taken_at (drop l.entry-index l.taken) l.node ≡ taken_at l.fn.taken l.node
