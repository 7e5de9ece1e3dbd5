use Rattle.std.proofs.Common.{◌≡◌, ◌++◌, ◌≤◌, take}
use Rattle.std.specs.List.{flat_map}
use Rattle.std.specs.Vec.{vec_capacity}
use Rattle.hash_tree.specs.Chunks.{chunk_text}
use Rattle.hash_tree.proofs.texts.put_chunks.Given as goal

abbrev pub invariant-loop-chunk : goal.invariant-loop-chunk
invariant-loop-chunk l = record {
  so_far : l.out.items ≡ l.fn.out.items ++ flat_map chunk_text (take l.chunk-index l.chunks);
  room : vec_capacity l.fn.out ≤ vec_capacity l.out;
}
