-- The tree of a range: its rows in leaves, and the digests of its clean nodes (the Dynamo paper, section 4.7).
use Rattle.std.specs.Prelude.{◌≡◌, ◌≢◌, ℕ, ◌<◌, ◌^◌, List, [], length, replicate, slice_index_or, slice_set, Option, None}
use Rattle.vclock.specs.declared.format.Format.{Format}
use Rattle.version_set.specs.declared.version.Version.{Version}
use Rattle.key_ring.specs.Places.{leaf_bits}
use Rattle.hash_tree.specs.Leaves.{Bucket, rows_in_leaf, with_offer}
use Rattle.hash_tree.specs.Texts.{IsTreeFor}
use Rattle.tree_nodes.specs.Nodes.{node_count, dirtied}
use Rattle.snapshot.specs.RowMaps.{RowMap, IsRowMap, leaf_in}
use Rattle.snapshot.specs.Snapshots.{leaves_of}

-- the rows, and by place the digests of the clean nodes of the tree over them
pub record RangeTree : Type 0 where
  pub map : RowMap
  pub marks : List (Option (List ℕ))

-- the rows belong to one range, and each clean node has the digest of its text for them
pub record IsRangeTree (t : RangeTree) : Type 0 where
  pub rows : IsRowMap t.map
  pub marks : IsTreeFor (leaf_in t.map) t.map.rows (record { format = t.map.format; digests = t.marks })

-- the rows of a leaf
abbrev pub bucket_of : RowMap → ℕ → Bucket
bucket_of m leaf = record { format = m.format; rows = rows_in_leaf (leaf_in m) leaf m.rows }

-- the leaves have the rows, each row in its leaf
pub record AreLeaves (m : RowMap) (leaves : List Bucket) : Type 0 where
  pub all : length leaves ≡ 2 ^ leaf_bits m.format
  pub each : (i : ℕ) (d : Bucket) → i < 2 ^ leaf_bits m.format → slice_index_or leaves i d ≡ bucket_of m i

-- no node is clean
unfoldable pub all_dirty : Format → List (Option (List ℕ))
all_dirty format = replicate (node_count format) None

-- the tree of a range without rows
abbrev pub bare : Format → ℕ → ℕ → RangeTree
bare format bits range = record { map = record { format = format; bits = bits; range = range; rows = [] }; marks = all_dirty format }

-- the tree with other rows that differ only in one leaf: the leaf is dirty, and so is each node above it
abbrev pub with_rows : RangeTree → ℕ → RowMap → RangeTree
with_rows t leaf m = record { map = m; marks = dirtied t.map.format leaf t.marks }

-- the tree after an offer of a version to the set of a key
abbrev pub offered_to : RangeTree → List ℕ → Version → RangeTree
offered_to t key v = with_rows t (leaf_in t.map key) (record t.map { rows = with_offer key v t.map.rows })

-- the leaves of a row map after a change of one leaf, and the rows of all leaves
pub record IsChange (old : RowMap) (leaf : ℕ) (leaves : List Bucket) (new : RowMap) : Type 0 where
  pub rows : IsRowMap new
  pub same : new ≡ record old { rows = new.rows }
  pub within : leaf < 2 ^ leaf_bits old.format
  pub others : (i : ℕ) → i ≢ leaf → rows_in_leaf (leaf_in old) i new.rows ≡ rows_in_leaf (leaf_in old) i old.rows
  pub are : leaves ≡ slice_set (leaves_of old) leaf (bucket_of new leaf)
