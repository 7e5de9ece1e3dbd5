-- The nodes at which two trees differ.
use Rattle.std.specs.Prelude.{◌≡◌, ℕ, zero, suc, ◌+◌, ◌/◌, ◌^◌, ◌<◌, ◌≤◌, Bool, true, ◌&&◌, not, bytes_eq, map, if◌then◌else◌, List, [], ◌∷◌, ◌++◌}
use Rattle.std.specs.List.{filter, AllByRecursion}
use Rattle.vclock.specs.declared.format.Format.{Format}
use Rattle.version_set.specs.Order.{Pairwise}
use Rattle.tree_nodes.specs.Nodes.{Node, is_same_node, contains_node, place_of, tree_depth}
use Rattle.snapshot.specs.RowMaps.{RowMap}
use Rattle.sync_session.specs.TreeNodes.{text_of, digest_of}
use Rattle.sync_session.specs.Walks.{TakenText, Walk, asked_by, IsExpectedText}

-- the first k nodes of a depth
unfoldable pub first_of_level : ℕ → ℕ → List Node
first_of_level depth zero = []
first_of_level depth (suc k) = first_of_level depth k ++ record { depth = depth; index = k } ∷ []

-- the nodes above a depth, by depth, then by index
unfoldable pub nodes_above_depth : ℕ → List Node
nodes_above_depth zero = []
nodes_above_depth (suc depth) = nodes_above_depth depth ++ first_of_level depth (16 ^ depth)

-- all nodes of a format's tree
abbrev pub all_nodes : Format → List Node
all_nodes f = nodes_above_depth (suc (tree_depth f))

-- two trees have different digests at a node
abbrev pub is_unlike : RowMap → RowMap → Node → Bool
is_unlike own other n = not (bytes_eq (digest_of own n) (digest_of other n))

-- two trees have different digests at a node and at each node above it
abbrev pub differs_at : RowMap → RowMap → ℕ → ℕ → Bool
differs_at own other zero i = is_unlike own other (record { depth = zero; index = i })
differs_at own other (suc depth) i = differs_at own other depth (i / 16) && is_unlike own other (record { depth = suc depth; index = i })

-- the nodes for which differs_at is true, by depth, then by index
abbrev pub differ : RowMap → RowMap → List Node
differ own other = filter (λ n. differs_at own other n.depth n.index) (all_nodes own.format)

-- the number of occurrences of a node in a list
abbrev pub times : Node → List Node → ℕ
times n [] = 0
times n (m ∷ nodes) = (if is_same_node n m then 1 else 0) + times n nodes

abbrev pub nodes_of : List TakenText → List Node
nodes_of taken = map (λ t. t.node) taken

-- Each node was asked at most once, and each node that was asked is either taken or outstanding.
pub record IsOrderly (w : Walk) : Type 0 where
  pub shared : (n : Node) → times n w.asked ≡ times n (nodes_of w.taken) + times n w.outstanding
  pub once : (n : Node) → times n w.asked ≤ 1

-- The facts of a walk that stay true however it ends: each taken text is canonical for its node and had the digest that
-- was expected there; the nodes asked are those that the texts ask, each once; and only nodes that were asked were
-- taken.
pub record IsTraced (w : Walk) : Type 0 where
  pub texts : AllByRecursion (IsExpectedText w) w.taken
  pub asked : w.asked ≡ asked_by w.own w.root w.taken
  pub took : (n : Node) → times n (nodes_of w.taken) ≤ times n w.asked
  pub once : (n : Node) → times n w.asked ≤ 1

-- each taken text is the partner's
abbrev pub IsHonest : Walk → RowMap → Type 0
IsHonest w other = AllByRecursion (λ t. t.text ≡ text_of other t.node) w.taken

-- only leaves are outstanding, or nothing
abbrev pub IsNearlyDone : Walk → Type 0
IsNearlyDone w = (n : Node) → contains_node n w.outstanding ≡ true → n.depth ≡ tree_depth w.own.format

-- the texts were taken in the order of their nodes' asks
abbrev pub IsInTurn : Walk → Type 0
IsInTurn w = (rest : List Node) × (w.asked ≡ nodes_of w.taken ++ rest)

-- nodes by depth, then by index
abbrev pub AscendByPlace : List Node → Type 0
AscendByPlace nodes = Pairwise (λ n m. place_of n < place_of m) nodes
