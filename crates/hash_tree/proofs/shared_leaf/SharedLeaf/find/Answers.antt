use Rattle.std.proofs.Common.{◌∙◌, ap}
use Rattle.hash_tree.specs.Leaves.{Bucket, versions_in}
use Rattle.hash_tree.proofs.KeySpotLaws.{spot_within, spot_versions}
use Rattle.hash_tree.proofs.shared_leaf.SharedLeaf.find.Goals as goal

pub row-requires : goal.row-requires
row-requires c = rw c.deref.ensures
    (spot_within c.args.key.now c.chunks-chunks.result.now c.in-Ok.spot c.index-chunks-spot.result c.in-Ok.ensures c.index-chunks-spot.is)

pub returns-in-Ok-clause-found : goal.returns-in-Ok-clause-found
returns-in-Ok-clause-found c =
    spot_versions c.args.key.now c.chunks-chunks.result.now c.in-Ok.spot c.index-chunks-spot.result c.row.result.now c.in-Ok.ensures
    c.index-chunks-spot.is (rw c.deref.ensures at (c.row.ensures c.row.result.now))
    ∙ ap (λ (b : Bucket). versions_in c.args.key.now b.rows) c.chunks-chunks.ensures.rows
