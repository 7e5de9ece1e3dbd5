use Rattle.std.proofs.Common.{◌≡◌, drop}
use Rattle.caller_pass.specs.Locks.{first_missing}
use Rattle.caller_pass.proofs.missing.first_missing.Given as goal

abbrev pub invariant-loop-receipt : goal.invariant-loop-receipt
invariant-loop-receipt l = first_missing l.receipts l.key l.held ≡ first_missing (drop l.receipt-index l.receipts) l.key l.held
