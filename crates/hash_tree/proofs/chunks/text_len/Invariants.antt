use Rattle.std.proofs.Common.{◌≡◌, ◌+◌, ◌*◌, ◌^◌, ◌≤◌, take, length}
use Rattle.std.specs.List.{flat_map}
use Rattle.hash_tree.specs.Chunks.{chunk_text}
use Rattle.hash_tree.proofs.chunks.text_len.Given as goal

abbrev pub invariant-loop-chunk : goal.invariant-loop-chunk
invariant-loop-chunk l = record {
  so_far : l.len ≡ 1 + length (flat_map chunk_text (take l.chunk-index l.chunks));
  short : l.len ≤ 1 + l.chunk-index * 2 ^ 64;
}
