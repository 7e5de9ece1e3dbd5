use Rattle.std.proofs.Common.{◌≡◌, map, take, drop}
use Rattle.c_calls.specs.Versions.{as_pair}
use Rattle.c_calls.proofs.versions.copy_pairs.Given as goal

abbrev pub invariant-loop-i : goal.invariant-loop-i
invariant-loop-i l = record {
  copied : take l.i l.out ≡ map as_pair (take l.i l.pairs);
  rest : drop l.i l.out ≡ drop l.i l.initial.out;
}
