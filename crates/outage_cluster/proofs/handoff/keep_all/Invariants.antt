use Rattle.std.proofs.Common.{◌≡◌, ◌+◌, ◌≤◌, length, take}
use Rattle.outage_cluster.specs.Handoff.{kept_all}
use Rattle.outage_cluster.proofs.handoff.keep_all.Given as goal

abbrev pub invariant-loop-i : goal.invariant-loop-i
invariant-loop-i l = record {
  kept : l.hints ≡ kept_all l.entry (take l.i l.owners) l.initial.hints;
  count : length l.hints ≡ length l.initial.hints + l.kept;
  most : l.kept ≤ l.i;
}
