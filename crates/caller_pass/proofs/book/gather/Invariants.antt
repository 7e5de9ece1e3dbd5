use Rattle.std.proofs.Common.{◌≡◌, ◌+◌, ◌≤◌, ◌++◌, length, map, vec_len}
use Rattle.std.specs.Prelude.{reverse}
use Rattle.std.specs.Vec.{vec_capacity}
use Rattle.caller_pass.specs.Renewals.{pass_of}
use Rattle.caller_pass.proofs.book.gather.Given as goal

abbrev pub invariant-loop-pass : goal.invariant-loop-pass
invariant-loop-pass g l = record {
  kept : map pass_of l.kept.items ++ reverse l.passes.items ≡ l.fn.passes.items;
  parts : l.share.parts + length l.passes.items ≡ l.fn.share.parts + length l.fn.passes.items;
  few : l.share.parts ≤ g.L.Ledger.parts;
  room : length l.kept.items + length l.passes.items ≤ vec_capacity l.kept;
}

abbrev pub decreases-loop-pass : goal.decreases-loop-pass
decreases-loop-pass g l = vec_len l.passes
