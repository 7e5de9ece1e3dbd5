-- The parts of a node's text: a leaf's are the texts of its rows, an inner node's are the digests of its 16 children.
use Rattle.std.specs.Prelude.{ℕ, zero, suc, ◌+◌, ◌*◌, ◌-◌, List, map, nat_lt, if◌then◌else◌}
use Rattle.sha2.specs.Sha256.{sha256}
use Rattle.vclock.specs.declared.format.Format.{Format}
use Rattle.row_bytes.specs.declared.row.Row.{Row}
use Rattle.row_bytes.specs.Rows.{row_text}
use Rattle.tree_nodes.specs.Nodes.{Node, tree_depth}
use Rattle.hash_tree.specs.Leaves.{rows_in_leaf}
use Rattle.hash_tree.specs.Texts.{leaf_byte, inner_byte, per_child, node_text}
use Rattle.snapshot.specs.RowMaps.{RowMap, leaf_in}

-- the parts of the node with this height above the leaves and this index at that height
abbrev pub parts_over : Format → (List ℕ → ℕ) → List Row → ℕ → ℕ → List (List ℕ)
parts_over format leaf rows zero index = map (row_text format) (rows_in_leaf leaf index rows)
parts_over format leaf rows (suc height) index = per_child (λ j. sha256 (node_text format leaf rows height (16 * index + j)))

abbrev pub parts_at : RowMap → Node → List (List ℕ)
parts_at m n = parts_over m.format (leaf_in m) m.rows (tree_depth m.format - n.depth) n.index

-- the byte before the parts
abbrev pub first_at : RowMap → Node → ℕ
first_at m n = if nat_lt n.depth (tree_depth m.format) then inner_byte m.format else leaf_byte m.format
