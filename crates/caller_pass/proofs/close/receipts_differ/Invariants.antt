use Rattle.std.proofs.Common.{◌≡◌, ◌≤◌, length, take}
use Rattle.caller_pass.specs.Closings.{of_seat}
use Rattle.caller_pass.proofs.close.receipts_differ.Given as goal

abbrev pub invariant-loop-entry : goal.invariant-loop-entry
invariant-loop-entry l = record {
  within : l.count ≤ length l.receipts;
  same : take l.count l.receipts ≡ of_seat l.seat (take l.entry-index l.entries);
}
