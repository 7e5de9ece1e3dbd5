-- Rehashed trees (the Dynamo paper, section 4.7).
use Rattle.std.specs.Prelude.{◌≡◌, ℕ, zero, suc, ◌^◌, ◌<◌, ◌++◌, Option, Some, None, is_some, List, map, take, Contains, IsTrue, Result, IfErr, OnOk}
use Rattle.std.specs.List.{range_with_len}
use Rattle.vclock.specs.Answer.{Answers}
use Rattle.vclock.specs.declared.refusal.Refusal.{Refusal}
use Rattle.tree_nodes.specs.Nodes.{tree_depth, kept_digest, dirty_count, ready_from}
use Rattle.hash_tree.specs.Texts.{node_digest}
use Rattle.snapshot.specs.RowMaps.{RowMap, leaf_in}
use Rattle.range_tree.specs.Trees.{RangeTree}

-- the digests of the nodes of a depth, each at that height above the leaves
abbrev pub level_digests : RowMap → ℕ → ℕ → List (Option (List ℕ))
level_digests m depth height = map (λ index. Some (node_digest m.format (leaf_in m) m.rows height index)) (range_with_len 0 (16 ^ depth))

-- the digests of the nodes of that depth and of the depths below it
unfoldable pub digests_below : RowMap → ℕ → ℕ → List (Option (List ℕ))
digests_below m depth zero = level_digests m depth zero
digests_below m depth (suc height) = level_digests m depth (suc height) ++ digests_below m (suc depth) height

-- the digests of all nodes
abbrev pub all_digests : RowMap → List (Option (List ℕ))
all_digests m = digests_below m 0 (tree_depth m.format)

-- the tree with every node clean
abbrev pub rehashed : RangeTree → RangeTree
rehashed t = record t { marks = all_digests t.map }

-- the rows are unchanged, and no node lost its digest
pub record IsSameTree (t u : RangeTree) : Type 0 where
  pub map : u.map ≡ t.map
  pub kept : (place : ℕ) (d : List ℕ) → kept_digest t.marks place ≡ Some d → kept_digest u.marks place ≡ Some d

-- the nodes at these places are clean, and any other node is unchanged
pub record HasHashed (places : List ℕ) (t u : RangeTree) : Type 0 where
  pub same : IsSameTree t u
  pub clean : (place : ℕ) → Contains places place → IsTrue (is_some (kept_digest u.marks place))
  pub others : (place : ℕ) → ¬ Contains places place → kept_digest u.marks place ≡ kept_digest t.marks place

-- the first `most` of the dirty nodes whose children are clean, or all if there are fewer, are hashed; the result is
-- the number of nodes that are still dirty
abbrev pub HashesSome : Result ℕ Refusal → ℕ → RangeTree → RangeTree → Type 0
HashesSome r most t u = Answers r None (λ left. left ≡ dirty_count u.marks) × OnOk r (HasHashed (take most (ready_from t.marks 0)) t u)
    × OnOk r (0 < most → 0 < dirty_count t.marks → dirty_count u.marks < dirty_count t.marks) × IfErr r (λ _. u ≡ t)
