use Rattle.caller_pass.specs.Closings.{AllThere}
use Rattle.caller_pass.proofs.close.all_there.Given as goal

abbrev pub invariant-loop-seat : goal.invariant-loop-seat
invariant-loop-seat g l = AllThere l.seat l.passes.items
