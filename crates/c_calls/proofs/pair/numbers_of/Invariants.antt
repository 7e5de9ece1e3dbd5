use Rattle.std.proofs.Common.{◌≡◌, take}
use Rattle.c_calls.specs.Pairs.{clock_pairs}
use Rattle.c_calls.proofs.pair.numbers_of.Given as goal

abbrev pub invariant-loop-pair : goal.invariant-loop-pair
invariant-loop-pair l = l.numbers.items ≡ clock_pairs (take l.pair-index l.pairs)
