-- The parts of a node's text, by the node's depth.
use Rattle.std.proofs.Common.{◌≡◌, ℕ, zero, suc, ◌+◌, ◌*◌, ◌-◌, ◌<◌, ◌≤◌, List, [], ◌∷◌, map, refl, sym, ap, arith}
use Rattle.std.specs.List.{AllByRecursion, range_with_len}
use Rattle.std.proofs.lemmas.Bool.{lt-ltb, le-ltb}
use Rattle.std.proofs.lemmas.List.Folds.{flat_map-map}
use Rattle.vclock.specs.declared.format.Format.{Format}
use Rattle.version_set.proofs.ListLaws.{all-filter}
use Rattle.row_bytes.specs.declared.row.Row.{Row}
use Rattle.row_bytes.specs.Rows.{row_text, FitsText, IsRow}
use Rattle.row_bytes.proofs.RowSetLaws.{row_fits}
use Rattle.tree_nodes.specs.Nodes.{Node, tree_depth}
use Rattle.tree_nodes.specs.Blocks.{joined}
use Rattle.hash_tree.specs.Leaves.{rows_in_leaf}
use Rattle.hash_tree.specs.Texts.{leaf_byte, leaf_text, inner_text, per_child, node_text}
use Rattle.snapshot.specs.RowMaps.{RowMap, IsRowMap, leaf_in, digest_at, text_at}
use Rattle.text_patch.specs.Parts.{parts_over, parts_at, first_at}

-- the digest of child j of a node
abbrev pub child_digest : RowMap → Node → ℕ → List ℕ
child_digest m n j = digest_at m (suc n.depth) (16 * n.index + j)

-- the parts of a leaf
pub leaf_parts : (m : RowMap) (n : Node) → n.depth ≡ tree_depth m.format
    → parts_at m n ≡ map (row_text m.format) (rows_in_leaf (leaf_in m) n.index m.rows)
leaf_parts m n deep =
    let low : tree_depth m.format - n.depth ≡ 0 = omega arith in
    ap (λ (h : ℕ). parts_over m.format (leaf_in m) m.rows h n.index) low

-- the parts of any other node
pub inner_parts : (m : RowMap) (n : Node) → n.depth < tree_depth m.format → parts_at m n ≡ map (child_digest m n) (range_with_len 0 16)
unfolding per_child
inner_parts m n inner =
    let high : tree_depth m.format - n.depth ≡ suc (tree_depth m.format - suc n.depth) = omega arith in
    ap (λ (h : ℕ). parts_over m.format (leaf_in m) m.rows h n.index) high

-- the rows of a row map fit their texts
rows_fit : (format : Format) (rows : List Row) → AllByRecursion (IsRow format) rows → AllByRecursion (FitsText format) rows
rows_fit format [] all = tt
rows_fit format (r ∷ rows) all = (row_fits format r all.0, rows_fit format rows all.1)

-- so do those of a leaf
pub leaf_fits : (m : RowMap) (index : ℕ) → IsRowMap m → AllByRecursion (FitsText m.format) (rows_in_leaf (leaf_in m) index m.rows)
leaf_fits m index is = all-filter (FitsText m.format) _ m.rows (rows_fit m.format m.rows is.each)

-- the text of a leaf begins with its byte, and its parts follow
leaf_is : (format : Format) (rows : List Row) → leaf_text format rows ≡ leaf_byte format ∷ joined (map (row_text format) rows)
unfolding leaf_text
leaf_is format rows = ap (λ (t : List ℕ). leaf_byte format ∷ t) (sym (flat_map-map (λ (p : List ℕ). p) (row_text format) rows))

-- by the height of the node
pub text_by_height : (m : RowMap) (n : Node) (height : ℕ) → tree_depth m.format - n.depth ≡ height → n.depth ≤ tree_depth m.format
    → node_text m.format (leaf_in m) m.rows height n.index ≡ first_at m n ∷ joined (parts_over m.format (leaf_in m) m.rows height n.index)
unfolding node_text inner_text
text_by_height m n zero is has = rw (le-ltb n.depth (tree_depth m.format) (omega arith)) (leaf_is m.format (rows_in_leaf (leaf_in m) n.index m.rows))
text_by_height m n (suc height) is has = rw (lt-ltb n.depth (tree_depth m.format) (omega arith)) refl

-- the text of a node is its first byte and its parts
pub text_of_parts : (m : RowMap) (n : Node) → n.depth ≤ tree_depth m.format → text_at m n.depth n.index ≡ first_at m n ∷ joined (parts_at m n)
text_of_parts m n has = text_by_height m n (tree_depth m.format - n.depth) refl has
