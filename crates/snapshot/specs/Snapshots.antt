-- Snapshots: the leaves of a row map, with the digests of all nodes of its tree.
use Rattle.std.specs.Prelude.{◌≡◌, ℕ, ◌^◌, List, [], ◌∷◌, length, map, nat_le, nat_lt, Option, Some, None, if◌then◌else◌}
use Rattle.std.specs.List.{flat_map, range_with_len}
use Rattle.vclock.specs.declared.format.Format.{Format}
use Rattle.vclock.specs.declared.refusal.Refusal.{Refusal}
use Rattle.vclock.specs.declared.refusal.Refusal.TheVariants.{BadMessage}
use Rattle.version_set.specs.Order.{inserted}
use Rattle.key_ring.specs.Places.{leaf_bits}
use Rattle.row_bytes.specs.declared.row.Row.{Row}
use Rattle.hash_tree.specs.Leaves.{Bucket, key_cmp, rows_in_leaf}
use Rattle.tree_nodes.specs.Nodes.{Node, tree_depth, node_count}
use Rattle.hash_tree.specs.Texts.{AreTrue}
use Rattle.snapshot.specs.RowMaps.{RowMap, IsRowMap, leaf_in}

-- ascending rows and one more
abbrev pub with_row : Row → List Row → List Row
with_row r rows = inserted (λ (r x : Row). key_cmp r.key x.key) r rows

-- rows in ascending order of key
unfoldable pub in_order : List Row → List Row
in_order [] = []
in_order (r ∷ rows) = with_row r (in_order rows)

-- the leaves of a row map, by ascending index
unfoldable pub leaves_of : RowMap → List Bucket
leaves_of m = map (λ i. record { format = m.format; rows = rows_in_leaf (leaf_in m) i m.rows }) (range_with_len 0 (2 ^ leaf_bits m.format))

-- the row map of leaves
abbrev pub map_of : Format → ℕ → ℕ → List Bucket → RowMap
map_of format bits range leaves = record { format = format; bits = bits; range = range; rows = in_order (flat_map (λ (b : Bucket). b.rows) leaves) }

-- the leaves of a row map, and by place the digests of all nodes of its tree
pub record IsSnapshot (m : RowMap) (leaves : List Bucket) (digests : List (List ℕ)) : Type 0 where
  pub rows : IsRowMap m
  pub leaves_are : leaves ≡ leaves_of m
  pub all : length digests ≡ node_count m.format
  pub right : AreTrue m.format (leaf_in m) m.rows (map Some digests)

-- the fault of an ask for a node's text: the tree isn't so deep
abbrev pub answer_fault : RowMap → Node → Option Refusal
answer_fault m node = if nat_le node.depth (tree_depth m.format) then None else Some BadMessage

-- the fault of a leaf that the tree does not have
abbrev pub leaf_fault : Format → ℕ → Option Refusal
leaf_fault format leaf = if nat_lt leaf (2 ^ leaf_bits format) then None else Some BadMessage
