use Rattle.std.proofs.Common.{length, ap, arith}
use Rattle.hash_tree.proofs.ChunkPlaces.{text_of_chunks}
use Rattle.hash_tree.proofs.shared_leaf.SharedLeaf.text_len.Goals as goal

pub returns : goal.returns
returns c = omega (
  arith,
  c.text_len.ensures,
  ap length (text_of_chunks c.args.self.now c.args.self.now.format c.chunks.result.now c.chunks.ensures.rows c.chunks.ensures.chunks),
)
