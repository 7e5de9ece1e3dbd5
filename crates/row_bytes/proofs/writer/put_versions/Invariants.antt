use Rattle.std.proofs.Common.{◌≡◌, ◌≤◌, ◌++◌, take, length}
use Rattle.std.specs.List.{flat_map}
use Rattle.std.specs.Int.{w16, to_be_bytes}
use Rattle.std.specs.Vec.{vec_capacity}
use Rattle.version_set.specs.Version.{version_text}
use Rattle.row_bytes.proofs.writer.put_versions.Given as goal

abbrev pub invariant-loop-version : goal.invariant-loop-version
invariant-loop-version l = record {
  so_far : l.out.items ≡ l.fn.out.items ++ to_be_bytes w16 (length l.versions) ++ flat_map (version_text l.format) (take l.version-index l.versions);
  grows : vec_capacity l.fn.out ≤ vec_capacity l.out;
}
