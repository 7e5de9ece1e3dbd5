use Rattle.std.proofs.Common.{ℕ, ◌<◌, length, get_or}
use Rattle.caller_pass.specs.Closings.{IsSettled}
use Rattle.caller_pass.specs.Passes.{PassView}
use Rattle.caller_pass.proofs.close.compare_each.Given as goal

abbrev pub invariant-loop-seat : goal.invariant-loop-seat
invariant-loop-seat g l = (d : PassView) (k : ℕ) → k < length l.passes.items → (get_or l.passes.items k d).seat < l.seat
    → IsSettled l.state.store.entries (get_or l.passes.items k d)
