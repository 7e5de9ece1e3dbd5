use Rattle.std.proofs.Common.{rules}
use Rattle.std.proofs.lemmas.Fn.{always_returns_same}
use Rattle.hash_tree.specs.Leaves.{Bucket}
use Rattle.hash_tree.specs.Chunks.{begin_by}
use Rattle.hash_tree.proofs.KeySpotLaws.{chunks_parted, parted_before, parted_after}
use Rattle.hash_tree.proofs.chunks.chunk_of.Goals as goal

pub returns-clause-before : goal.returns-clause-before
returns-clause-before c =
    rw c.saturating_sub.ensures
    (parted_before c.args.key.now c.args.chunks.now c.partition_point.result c.requires.ascending c.partition_point.ensures.bound
    (c.partition_point.ensures.partitioned (λ (x : Bucket). begin_by c.args.key.now x.rows) (always_returns_same _ _ _ (λ a r q h. search rules))
    (chunks_parted c.args.key.now c.args.chunks.now c.requires.ascending c.requires.each)))

pub returns-clause-after : goal.returns-clause-after
returns-clause-after c =
    rw c.saturating_sub.ensures (parted_after c.args.key.now c.args.chunks.now c.partition_point.result c.requires.ascending c.requires.each
    (c.partition_point.ensures.partitioned (λ (x : Bucket). begin_by c.args.key.now x.rows) (always_returns_same _ _ _ (λ a r q h. search rules))
    (chunks_parted c.args.key.now c.args.chunks.now c.requires.ascending c.requires.each)))
