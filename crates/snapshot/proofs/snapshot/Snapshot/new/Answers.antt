use Rattle.std.proofs.Common.{◌≡◌, ◌^◌, refl, ◌∙◌}
use Rattle.vclock.specs.declared.format.Format.{Format}
use Rattle.vclock.specs.declared.format.Format.TheVariants.{One, Two}
use Rattle.key_ring.specs.Places.{leaf_bits}
use Rattle.tree_nodes.specs.Nodes.{tree_depth}
use Rattle.snapshot.specs.Snapshots.{map_of}
use Rattle.snapshot.proofs.ShownLaws.{leaf_count}
use Rattle.snapshot.proofs.snapshot.Snapshot.new.Goals as goal

-- as many leaves as nodes of their depth
as_many : (format : Format) → 2 ^ leaf_bits format ≡ 16 ^ tree_depth format
as_many One = refl
as_many Two = refl

pub from_vec-requires : goal.from_vec-requires
from_vec-requires c = leaf_count
    (map_of c.args.format c.args.bits c.args.range c.args.leaves.items) c.args.leaves.items c.args.digests.items c.requires ∙ as_many c.args.format
