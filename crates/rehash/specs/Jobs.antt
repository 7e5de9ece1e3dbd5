-- Jobs: nodes whose texts are to be hashed.
use Rattle.std.specs.Prelude.{ℕ, List, length}
use Rattle.hash_tree.specs.Texts.{leaf_text, inner_text}
use Rattle.tree_nodes.specs.Nodes.{Node}
use Rattle.rehash.specs.declared.source.TextSource.{TextSource}
use Rattle.rehash.specs.declared.source.TextSource.TheVariants.{Leaf, Children}

-- a node and its text
pub record NodeText : Type 0 where
  pub node : Node
  pub text : List ℕ

-- the text from a source: a leaf, or the digests of the children
abbrev pub source_text : TextSource → List ℕ
source_text (Leaf bucket) = leaf_text bucket.format bucket.rows
source_text (Children format digests) = inner_text format digests

-- the length in bytes of that text: one byte and 16 digests of 32 bytes for a node with children
abbrev pub source_len : TextSource → ℕ
source_len (Leaf bucket) = length (leaf_text bucket.format bucket.rows)
source_len (Children format digests) = 513
