use Rattle.std.proofs.Common.{◌≡◌, take}
use Rattle.std.specs.Prelude.{None}
use Rattle.c_calls.specs.Keys.{key_after}
use Rattle.c_calls.proofs.keys.first_after.Given as goal

abbrev pub invariant-loop-row : goal.invariant-loop-row
invariant-loop-row l = key_after l.key (take l.row-index l.rows) ≡ None
