use Rattle.std.proofs.Common.{◌≡◌, ◌≤◌, ◌++◌, take}
use Rattle.std.specs.List.{flat_map}
use Rattle.std.specs.Vec.{vec_capacity}
use Rattle.version_set.specs.Version.{pair_text}
use Rattle.row_bytes.proofs.writer.put_pairs.Given as goal

abbrev pub invariant-loop-pair : goal.invariant-loop-pair
invariant-loop-pair l = record {
  so_far : l.out.items ≡ l.initial.out.items ++ flat_map pair_text (take l.pair-index l.pairs);
  grows : vec_capacity l.initial.out ≤ vec_capacity l.out;
}
