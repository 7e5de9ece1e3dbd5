use Rattle.std.proofs.Common.{◌∷◌, ◌∙◌, ap}
use Rattle.std.specs.List.{flat_map}
use Rattle.hash_tree.specs.Leaves.{Bucket}
use Rattle.hash_tree.specs.Chunks.{chunk_text}
use Rattle.hash_tree.specs.Texts.{leaf_byte}
use Rattle.hash_tree.proofs.ChunkPlaces.{text_of_chunks}
use Rattle.hash_tree.proofs.shared_leaf.SharedLeaf.is_text.Goals as goal

pub returns : goal.returns
returns c =
    let text = ap (λ (b : Bucket). leaf_byte b.format ∷ flat_map chunk_text c.chunks.result.now) c.self.view_is
    ∙ text_of_chunks c.args.self.now c.args.self.now.format c.chunks.result.now c.chunks.ensures.rows c.chunks.ensures.chunks in
    rw (← text) c.is_chunked_text.ensures
