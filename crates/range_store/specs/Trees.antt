-- A range whose tree was rehashed: section 4.7 of the Dynamo paper.
use Rattle.std.specs.Prelude.{◌≡◌, ℕ, Some, List, Result}
use Rattle.vclock.specs.declared.refusal.Refusal.{Refusal}
use Rattle.tree_nodes.specs.Nodes.{kept_digest}
use Rattle.range_tree.specs.Rehashes.{all_digests}
use Rattle.range_tree.specs.Rehashes as trees
use Rattle.range_store.specs.Store.{Store, rows_now, tree_in}

-- the state with every node clean
abbrev pub rehashed : Store → Store
rehashed s = record s { marks = all_digests (rows_now s) }

-- only the digests of nodes differ, and no node lost its digest
pub record IsSameRange (s t : Store) : Type 0 where
  pub config : t.config ≡ s.config
  pub entries : t.entries ≡ s.entries
  pub kept : (place : ℕ) (d : List ℕ) → kept_digest s.marks place ≡ Some d → kept_digest t.marks place ≡ Some d

-- the first `most` of the dirty nodes whose children are clean, or all if there are fewer, are hashed, and nothing else
-- changes; the result is the number of nodes that are still dirty
abbrev pub HashesSome : Result ℕ Refusal → ℕ → Store → Store → Type 0
HashesSome r most s t = (t ≡ record s { marks = t.marks }) × trees.HashesSome r most (tree_in s) (tree_in t)
