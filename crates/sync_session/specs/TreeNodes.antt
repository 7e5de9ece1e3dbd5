-- The texts and digests of the nodes of the tree over rows.
use Rattle.std.specs.Prelude.{ℕ, List}
use Rattle.tree_nodes.specs.Nodes.{Node}
use Rattle.snapshot.specs.RowMaps.{RowMap, text_at, digest_at}

-- the text of a node over rows, and its digest
abbrev pub text_of : RowMap → Node → List ℕ
text_of m n = text_at m n.depth n.index

abbrev pub digest_of : RowMap → Node → List ℕ
digest_of m n = digest_at m n.depth n.index
