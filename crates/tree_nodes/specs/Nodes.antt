-- The nodes of a range's tree: section 4.7 of the Dynamo paper. The fan is 16, and the place of a node counts the nodes
-- before it, depth by depth: the root is at 0, and child j of the node at p is at 16 p + 1 + j.
use Rattle.std.specs.Prelude.{◌≡◌, ℕ, zero, suc, ◌+◌, ◌*◌, ◌/◌, ◌-◌, ◌^◌, ◌<◌, ◌≤◌, Bool, ◌&&◌, is_some, is_none, Option, Some, None, List, [], ◌∷◌, length, map, filter, take, drop, slice_index_or, nat_eq, if◌then◌else◌}
use Rattle.std.specs.List.{list_any, list_all, range_with_len}
use Rattle.vclock.specs.declared.format.Format.{Format}
use Rattle.vclock.specs.declared.format.Format.TheVariants.{One, Two}

-- the depth of the leaves
abbrev pub tree_depth : Format → ℕ
tree_depth One = 2
tree_depth Two = 3

-- a node: its depth, and its index there
pub record Node : Type 0 where
  pub depth : ℕ
  pub index : ℕ

-- a tree of this depth has the node
pub record IsNode (depth : ℕ) (n : Node) : Type 0 where
  pub shallow : n.depth ≤ depth
  pub within : n.index < 16 ^ n.depth

abbrev pub top : Node
top = record { depth = 0; index = 0 }

-- the children of a node are its child 0 to its child 15
abbrev pub child : Node → ℕ → Node
child n j = record { depth = suc n.depth; index = 16 * n.index + j }

-- the node above, if any
abbrev pub parent_at : ℕ → ℕ → Option Node
parent_at zero i = None
parent_at (suc depth) i = Some (record { depth = depth; index = i / 16 })

abbrev pub parent_of : Node → Option Node
parent_of n = parent_at n.depth n.index

-- two nodes are equal
abbrev pub is_same_node : Node → Node → Bool
is_same_node m n = nat_eq m.depth n.depth && nat_eq m.index n.index

-- a list contains the node
abbrev pub contains_node : Node → List Node → Bool
contains_node n nodes = list_any (is_same_node n) nodes

-- the number of nodes above a depth
abbrev pub nodes_above : ℕ → ℕ
nodes_above zero = 0
nodes_above (suc depth) = 16 * nodes_above depth + 1

-- the number of nodes of a tree: 273, or 4,369 in format 2
abbrev pub node_count : Format → ℕ
node_count One = nodes_above 3
node_count Two = nodes_above 4

-- the place of a node
abbrev pub place_at : ℕ → ℕ → ℕ
place_at depth index = nodes_above depth + index

abbrev pub place_of : Node → ℕ
place_of n = place_at n.depth n.index

-- a tree: its format, and the digests of its clean nodes by place
pub record Tree : Type 0 where
  pub format : Format
  pub digests : List (Option (List ℕ))

-- the digest of the node at a place: a node with a digest is clean, any other is dirty
abbrev pub kept_digest : List (Option (List ℕ)) → ℕ → Option (List ℕ)
kept_digest digests place = slice_index_or digests place None

-- the digests of a node's children: an empty list for a leaf
abbrev pub children_of : List (Option (List ℕ)) → ℕ → List (Option (List ℕ))
children_of digests place = take 16 (drop (16 * place + 1) digests)

-- all these nodes are clean
abbrev pub are_clean : List (Option (List ℕ)) → Bool
are_clean digests = list_all is_some digests

-- the children of a clean node are clean
unfoldable pub AreCleanBelow : List (Option (List ℕ)) → Type 0
AreCleanBelow digests = (place j : ℕ) → j < 16 → 16 * place + 1 + j < length digests → kept_digest digests (16 * place + 1 + j) ≡ None → kept_digest digests place ≡ None

-- each node has its place, and the children of a clean node are clean
pub record IsTree (t : Tree) : Type 0 where
  pub all : length t.digests ≡ node_count t.format
  pub below : AreCleanBelow t.digests

-- the number of dirty nodes
abbrev pub dirty_count : List (Option (List ℕ)) → ℕ
dirty_count digests = length (filter is_none digests)

-- a node can be hashed: it is dirty, and its children are clean
abbrev pub is_ready : List (Option (List ℕ)) → ℕ → Bool
is_ready digests place = is_none (kept_digest digests place) && are_clean (children_of digests place)

-- the places of the nodes that can be hashed, from a place on
abbrev pub ready_from : List (Option (List ℕ)) → ℕ → List ℕ
ready_from digests from = filter (is_ready digests) (range_with_len from (length digests - from))

-- the places of a node and of those above it
abbrev pub path_of : ℕ → ℕ → List ℕ
path_of zero index = 0 ∷ []
path_of (suc depth) index = place_at (suc depth) index ∷ path_of depth (index / 16)

-- the index of the ancestor at a height above the leaf: at height 0 the leaf itself
abbrev pub ancestor_of : ℕ → ℕ → ℕ
ancestor_of zero leaf = leaf
ancestor_of (suc height) leaf = ancestor_of height leaf / 16

-- a place belongs to a leaf or a node above it
abbrev pub is_on_path : Format → ℕ → ℕ → Bool
is_on_path format leaf place = list_any (nat_eq place) (path_of (tree_depth format) leaf)

-- the digests after a leaf and the nodes above it become dirty: every other node is unchanged
unfoldable pub dirtied : Format → ℕ → List (Option (List ℕ)) → List (Option (List ℕ))
dirtied format leaf digests = map (λ place. if is_on_path format leaf place then None else kept_digest digests place) (range_with_len 0 (length digests))
