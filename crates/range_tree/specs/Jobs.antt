-- Hashing jobs for the nodes of a range's tree, and the digests that are installed (the Dynamo paper, section 4.7).
use Rattle.std.specs.Prelude.{◌≡◌, ℕ, ◌^◌, Bool, ◌&&◌, nat_eq, nat_le, nat_lt, List, map, take, slice_set, IsTrue, Option, Some, None, if◌then◌else◌}
use Rattle.std.specs.List.{AllByRecursion}
use Rattle.std.specs.Cmp.Lexicographic.{pointwise}
use Rattle.sha2.specs.Sha256.{sha256}
use Rattle.vclock.specs.Outcome.{Outcome, gives, refuses}
use Rattle.vclock.specs.declared.refusal.Refusal.{Refusal}
use Rattle.vclock.specs.declared.refusal.Refusal.TheVariants.{Stale, Dirty}
use Rattle.tree_nodes.specs.Nodes.{Node, tree_depth, place_of, children_of, are_clean, is_ready, ready_from}
use Rattle.rehash.specs.Jobs.{NodeText}
use Rattle.snapshot.specs.RowMaps.{text_at}
use Rattle.range_tree.specs.Trees.{RangeTree}

-- the tree has a node
abbrev pub has_node : RangeTree → Node → Bool
has_node t node = nat_le node.depth (tree_depth t.map.format) && nat_lt node.index (16 ^ node.depth)

-- the text of a node for the rows now
abbrev pub text_in : RangeTree → Node → List ℕ
text_in t node = text_at t.map node.depth node.index

-- a job: a dirty node with clean children, and its text
pub record IsJob (t : RangeTree) (job : NodeText) : Type 0 where
  pub has : IsTrue (has_node t job.node)
  pub ready : IsTrue (is_ready t.marks (place_of job.node))
  pub text : job.text ≡ text_in t job.node

-- a job, or None if no node is dirty
abbrev pub GivesJob : RangeTree → Option NodeText → Type 0
GivesJob t (Some job) = IsJob t job
GivesJob t None = IsTrue (are_clean t.marks)

-- jobs of different nodes: of all dirty nodes with clean children, or of the first `most` if there are more
pub record AreJobs (t : RangeTree) (most : ℕ) (jobs : List NodeText) : Type 0 where
  pub nodes : map (λ (job : NodeText). place_of job.node) jobs ≡ take most (ready_from t.marks 0)
  pub each : AllByRecursion (IsJob t) jobs

-- a text is a node's current text: the tree has the node, its children are clean, and it has that text now
abbrev pub is_current : RangeTree → Node → List ℕ → Bool
is_current t node text = has_node t node && are_clean (children_of t.marks (place_of node)) && pointwise nat_eq text (text_in t node)

-- the tree with the digest of a text
abbrev pub installed : RangeTree → Node → List ℕ → RangeTree
installed t node text = record t { marks = slice_set t.marks (place_of node) (Some (sha256 text)) }

-- the digest of a text is installed
abbrev pub install : RangeTree → Node → List ℕ → Outcome (Unit {0}) RangeTree
install t node text = if is_current t node text then gives tt (installed t node text) else refuses Stale

-- the fault of rows that can't be offered to another replica: some node has no digest
abbrev pub dirty_fault : RangeTree → Option Refusal
dirty_fault t = if are_clean t.marks then None else Some Dirty
