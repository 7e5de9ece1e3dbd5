use Rattle.std.proofs.Common.{◌-◌, length}
use Rattle.caller_pass.specs.Indexes.{IsIndex}
use Rattle.caller_pass.proofs.receipt_index.ByKey.index.Given as goal

abbrev pub invariant-loop-self : goal.invariant-loop-self
invariant-loop-self l = IsIndex l.receipts l.self

abbrev pub decreases-loop-self : goal.decreases-loop-self
decreases-loop-self l = length l.receipts - length l.self.earlier.items
