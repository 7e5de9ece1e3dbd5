-- The texts of the nodes of a tree, and their SHA-256 digests (FIPS 180-4): section 4.7 of the Dynamo paper.
-- docs/FORMATS.md defines the contents of texts. The parameter leaf maps each key to its leaf.
use Rattle.std.specs.Prelude.{◌≡◌, ℕ, zero, suc, ◌+◌, ◌*◌, ◌^◌, ◌<◌, Option, Some, List, ◌∷◌, map}
use Rattle.std.specs.List.{flat_map, range_with_len}
use Rattle.sha2.specs.Sha256.{sha256}
use Rattle.vclock.specs.declared.format.Format.{Format}
use Rattle.vclock.specs.declared.format.Format.TheVariants.{One, Two}
use Rattle.row_bytes.specs.declared.row.Row.{Row}
use Rattle.row_bytes.specs.Rows.{row_text}
use Rattle.hash_tree.specs.Leaves.{rows_in_leaf}
use Rattle.tree_nodes.specs.Nodes.{tree_depth, place_at, kept_digest, Tree, IsTree}

-- the first byte of a leaf's text
abbrev pub leaf_byte : Format → ℕ
leaf_byte One = 0
leaf_byte Two = 2

-- the first byte of any other node's text
abbrev pub inner_byte : Format → ℕ
inner_byte One = 1
inner_byte Two = 3

-- the text of a leaf with these rows
unfoldable pub leaf_text : Format → List Row → List ℕ
leaf_text format rows = leaf_byte format ∷ flat_map (row_text format) rows

-- the text of a node whose children have these digests
unfoldable pub inner_text : Format → List (List ℕ) → List ℕ
inner_text format digests = inner_byte format ∷ flat_map (λ d. d) digests

-- the results of f for the 16 children, in order
unfoldable pub per_child : (ℕ → List ℕ) → List (List ℕ)
per_child f = map f (range_with_len 0 16)

-- the text of a node over rows, by its height above the leaves and its index at that height
unfoldable pub node_text : Format → (List ℕ → ℕ) → List Row → ℕ → ℕ → List ℕ
node_text format leaf rows zero index = leaf_text format (rows_in_leaf leaf index rows)
node_text format leaf rows (suc height) index = inner_text format (per_child (λ j. sha256 (node_text format leaf rows height (16 * index + j))))

-- the digest of that text
abbrev pub node_digest : Format → (List ℕ → ℕ) → List Row → ℕ → ℕ → List ℕ
node_digest format leaf rows height index = sha256 (node_text format leaf rows height index)

-- each clean node has the digest of its text
unfoldable pub AreTrue : Format → (List ℕ → ℕ) → List Row → List (Option (List ℕ)) → Type 0
AreTrue format leaf rows digests = (depth height index : ℕ) (d : List ℕ) → depth + height ≡ tree_depth format → index < 16 ^ depth → kept_digest digests (place_at depth index) ≡ Some d → d ≡ node_digest format leaf rows height index

-- a valid tree whose clean nodes have the digests of their texts over rows
pub record IsTreeFor (leaf : List ℕ → ℕ) (rows : List Row) (t : Tree) : Type 0 where
  pub tree : IsTree t
  pub digests : AreTrue t.format leaf rows t.digests
