use Rattle.std.proofs.Common.{◌≡◌, ℕ, ◌<◌, get_or}
use Rattle.caller_pass.specs.Closings.{IsSettled}
use Rattle.caller_pass.specs.Passes.{PassView}
use Rattle.caller_pass.proofs.close.seat_differs.Given as goal

abbrev pub invariant-loop-pass : goal.invariant-loop-pass
invariant-loop-pass g l = (d : PassView) (k : ℕ) → k < l.pass-index → (get_or l.passes.items k d).seat ≡ l.seat
    → IsSettled l.state.store.entries (get_or l.passes.items k d)
