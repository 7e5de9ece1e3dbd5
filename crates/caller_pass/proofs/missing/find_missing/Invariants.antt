use Rattle.caller_pass.proofs.IndexLaws.{IsWalked}
use Rattle.caller_pass.proofs.missing.find_missing.Given as goal

abbrev pub invariant-loop-next : goal.invariant-loop-next
invariant-loop-next l = IsWalked l.receipts l.by_key l.key l.held l.next l.found

abbrev pub decreases-loop-next : goal.decreases-loop-next
decreases-loop-next l = l.next
