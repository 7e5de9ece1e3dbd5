use Rattle.caller_pass.specs.Locks.{IsLocked}
use Rattle.ring_node.proofs.WalkLaws.{session_opened}
use Rattle.ring_node.proofs.range.SharedRange.sync_by.Goals as goal

pub returns-clause-opened : goal.returns-clause-opened
returns-clause-opened g c =
    session_opened (IsLocked g.L.Ledger.parts) c.args.local c.args.partner c.in_ok-id.id c.in_ok-offer.offer c.in_ok-id.ensures.moment
