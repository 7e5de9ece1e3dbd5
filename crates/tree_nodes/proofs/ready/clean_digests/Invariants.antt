use Rattle.std.proofs.Common.{◌≡◌, map, take, Some, length}
use Rattle.tree_nodes.proofs.ready.clean_digests.Given as goal

abbrev pub invariant-loop-j : goal.invariant-loop-j
invariant-loop-j l = record {
  long : length l.digests ≡ 16;
  so_far : take l.j l.nodes ≡ map Some (take l.j l.digests);
}
