use Rattle.std.proofs.Common.{◌≡◌, ◌+◌, ◌≤◌, [], length, vec_len}
use Rattle.std.specs.Prelude.{nat_lt, if◌then◌else◌}
use Rattle.std.specs.Vec.{vec_capacity}
use Rattle.caller_pass.specs.Renewals.{carried_passes}
use Rattle.caller_pass.proofs.book.deal.Given as goal

abbrev pub invariant-loop-seat : goal.invariant-loop-seat
invariant-loop-seat g l = record {
  parts : l.share.parts + l.seat ≡ l.seats;
  amount : l.share.amount ≡ 0;
  receipts : l.receipts.items ≡ (if nat_lt l.carrier l.seat then [] else l.fn.receipts.items);
  count : l.count.total ≡ (if nat_lt l.carrier l.seat then length l.fn.receipts.items else 0);
  passes : l.passes.items ≡ carried_passes l.carrier l.fn.receipts.items l.seat;
  len : vec_len l.passes ≡ l.seat;
  room : l.seats ≤ vec_capacity l.passes;
}
