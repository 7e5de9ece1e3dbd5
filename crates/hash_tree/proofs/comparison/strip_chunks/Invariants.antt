use Rattle.std.proofs.Common.{drop}
use Rattle.std.specs.List.{flat_map}
use Rattle.row_bytes.proofs.StripLaws.{IsBehind}
use Rattle.hash_tree.specs.Chunks.{chunk_text}
use Rattle.hash_tree.proofs.comparison.strip_chunks.Given as goal

abbrev pub invariant-loop-chunk : goal.invariant-loop-chunk
invariant-loop-chunk l = IsBehind l.text (flat_map chunk_text l.chunks) l.rest (flat_map chunk_text (drop l.chunk-index l.chunks))
