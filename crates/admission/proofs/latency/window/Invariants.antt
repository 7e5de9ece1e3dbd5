use Rattle.std.proofs.Common.{◌≡◌, ◌≤◌, take, vec_len, vec_capacity}
use Rattle.admission.specs.Admission.{window_of, pairs}
use Rattle.admission.proofs.latency.window.Given as goal

abbrev pub invariant-loop-i : goal.invariant-loop-i
invariant-loop-i l = record {
  items : l.room.items ≡ window_of l.now (pairs (take l.i l.samples.items));
  short : vec_len l.room ≤ l.i;
  capacity : vec_capacity l.room ≡ vec_capacity l.fn.room;
}
