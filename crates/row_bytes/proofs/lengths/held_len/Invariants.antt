use Rattle.std.proofs.Common.{◌≡◌, ◌≤◌, ◌+◌, ◌*◌, take, length}
use Rattle.std.specs.List.{flat_map}
use Rattle.version_set.specs.Version.{version_text}
use Rattle.row_bytes.proofs.lengths.held_len.Given as goal

abbrev pub invariant-loop-version : goal.invariant-loop-version
invariant-loop-version l = record {
  so_far : l.len ≡ 4 + length l.key + length (flat_map (version_text l.format) (take l.version-index l.version-items));
  short : l.len ≤ 259 + 65862 * l.version-index;
}
