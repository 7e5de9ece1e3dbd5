-- The rows of a range at one moment, and the tree over them: section 4.7 of the Dynamo paper.
use Rattle.std.specs.Prelude.{◌≡◌, ℕ, ◌-◌, ◌<◌, ◌≤◌, ◌^◌, List}
use Rattle.std.specs.List.{AllByRecursion}
use Rattle.sha2.specs.Sha256.{sha256}
use Rattle.vclock.specs.declared.format.Format.{Format}
use Rattle.key_ring.specs.Places.{range_at, leaf_at}
use Rattle.row_bytes.specs.declared.row.Row.{Row}
use Rattle.row_bytes.specs.Rows.{IsRow}
use Rattle.hash_tree.specs.Leaves.{AscendByKey}
use Rattle.tree_nodes.specs.Nodes.{tree_depth}
use Rattle.hash_tree.specs.Texts.{node_text}

-- rows of one range of a ring of 2^bits ranges, in one format
pub record RowMap : Type 0 where
  pub format : Format
  pub bits : ℕ
  pub range : ℕ
  pub rows : List Row

-- in ascending order of key, each key once; each row has a text of the format and is in the range
pub record IsRowMap (m : RowMap) : Type 0 where
  pub few : m.bits ≤ 8
  pub range : m.range < 2 ^ m.bits
  pub ascending : AscendByKey m.rows
  pub each : AllByRecursion (IsRow m.format) m.rows
  pub here : AllByRecursion (λ (r : Row). range_at m.bits r.key ≡ m.range) m.rows

-- the leaf of a key
abbrev pub leaf_in : RowMap → List ℕ → ℕ
leaf_in m key = leaf_at m.format m.bits key

-- the text of a node
abbrev pub text_at : RowMap → ℕ → ℕ → List ℕ
text_at m depth index = node_text m.format (leaf_in m) m.rows (tree_depth m.format - depth) index

-- its digest
abbrev pub digest_at : RowMap → ℕ → ℕ → List ℕ
digest_at m depth index = sha256 (text_at m depth index)

-- the digest of the root
abbrev pub root_of : RowMap → List ℕ
root_of m = digest_at m 0 0
