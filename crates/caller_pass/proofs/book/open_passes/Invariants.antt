use Rattle.std.proofs.Common.{◌≡◌, ◌+◌}
use Rattle.caller_pass.specs.Passes.{new_passes}
use Rattle.caller_pass.proofs.book.open_passes.Given as goal

abbrev pub invariant-loop-seat : goal.invariant-loop-seat
invariant-loop-seat g l = record {
  parts : l.rest.parts + l.seat ≡ l.seats;
  amount : l.rest.amount ≡ 0;
  count : l.count.total ≡ 0;
  passes : l.passes.items ≡ new_passes l.seat;
}
