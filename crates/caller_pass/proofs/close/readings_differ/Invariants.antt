use Rattle.std.proofs.Common.{◌≡◌, ◌<◌, ◌≤◌, ℕ, length, get_or}
use Rattle.caller_pass.specs.declared.reading.Reading.{Reading}
use Rattle.caller_pass.specs.Closings.{IsTrueReading}
use Rattle.caller_pass.proofs.close.readings_differ.Given as goal

abbrev pub invariant-loop-i : goal.invariant-loop-i
invariant-loop-i l = record {
  before : (d : Reading) (k : ℕ) → k < l.i → IsTrueReading l.state.store.entries (get_or l.readings k d);
  replay : l.replay ≡ record { entries = l.state.store.entries; front = l.replay.front };
  later : (d : Reading) (k : ℕ) → l.i ≤ k → k < length l.readings → l.replay.front ≤ (get_or l.readings k d).front;
}
