use Rattle.std.proofs.Common.{take}
use Rattle.std.specs.List.{flat_map}
use Rattle.version_set.specs.Version.{pair_text}
use Rattle.c_calls.specs.Packed.{IsWritten}
use Rattle.c_calls.proofs.packed.put_pairs.Given as goal

abbrev pub invariant-loop-pair : goal.invariant-loop-pair
invariant-loop-pair l = IsWritten (flat_map pair_text (take l.pair-index l.pairs)) l.initial.out l.at l.out l.end
