use Rattle.std.proofs.Common.{◌≡◌, ◌≤◌, take}
use Rattle.std.specs.Vec.{vec_capacity}
use Rattle.version_set.proofs.members.clone_with_room.Given as goal

abbrev pub invariant-loop-version : goal.invariant-loop-version
invariant-loop-version l = record {
  items : l.copy.items ≡ take l.version-index l.versions;
  room : l.room ≤ vec_capacity l.copy;
}
