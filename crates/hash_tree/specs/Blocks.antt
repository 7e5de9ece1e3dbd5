-- Leaves by their number, in the blocks of a range's leaves.
use Rattle.std.specs.Prelude.{ℕ, List, [], slice_index_or}
use Rattle.vclock.specs.declared.format.Format.TheVariants.{One}
use Rattle.version_set.specs.declared.version.Version.{Version}
use Rattle.hash_tree.specs.Leaves.{Bucket, with_offer}

-- leaf i, or a leaf without rows if the list is too short
abbrev pub nth_leaf : List Bucket → ℕ → Bucket
nth_leaf leaves i = slice_index_or leaves i (record { format = One; rows = [] })

-- a leaf after an offer of a version to the set of a key
abbrev pub leaf_with_offer : List ℕ → Version → Bucket → Bucket
leaf_with_offer k v b = record { format = b.format; rows = with_offer k v b.rows }
