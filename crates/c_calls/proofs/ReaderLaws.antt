-- The nodes and the leaves of a snapshot.
use Rattle.std.proofs.Common.{◌≡◌, ◌<◌, ◌≤◌, ◌^◌, ℕ, Bool, true, false, ◌&&◌, refl, arith}
use Rattle.std.specs.Prelude.{nat_le, nat_lt}
use Rattle.std.proofs.lemmas.Bool.{ltb-true, leb-true}
use Rattle.vclock.specs.declared.format.Format.{Format}
use Rattle.vclock.specs.declared.format.Format.TheVariants.{One, Two}
use Rattle.version_set.proofs.ListLaws.{Pairwise-filter}
use Rattle.row_bytes.specs.declared.row.Row.{Row}
use Rattle.hash_tree.specs.Leaves.{key_cmp, AscendByKey, rows_in_leaf}
use Rattle.std.specs.declared.cmp.Ordering.TheVariants.{Less}
use Rattle.tree_nodes.specs.Nodes.{tree_depth, node_count}
use Rattle.tree_nodes.proofs.PlaceLaws.{place_within}
use Rattle.snapshot.specs.RowMaps.{RowMap, leaf_in}
use Rattle.c_calls.specs.Readers.{has_node}

few_nodes : (f : Format) → node_count f ≤ 4369
few_nodes One = omega arith
few_nodes Two = omega arith

-- no tree has so many nodes at a depth
pub no_node : (m : RowMap) (depth index : ℕ) → 65535 < index → has_node m depth index ≡ false
no_node m depth index far = by_depth (nat_le depth (tree_depth m.format)) refl
  where
    by_index : depth ≤ tree_depth m.format → (b : Bool) → nat_lt index (16 ^ depth) ≡ b → b ≡ false
    by_index shallow true is =
        let within = place_within m.format depth index shallow (ltb-true index (16 ^ depth) is) in
        absurd (omega (arith, within, few_nodes m.format, far))
    by_index shallow false is = refl

    by_depth : (b : Bool) → nat_le depth (tree_depth m.format) ≡ b → (b && nat_lt index (16 ^ depth)) ≡ false
    by_depth true is = by_index (leb-true depth (tree_depth m.format) is) (nat_lt index (16 ^ depth)) refl
    by_depth false is = refl

-- the rows of a leaf ascend as all rows do
pub leaf_ascends_in : (m : RowMap) (leaf : ℕ) → AscendByKey m.rows → AscendByKey (rows_in_leaf (leaf_in m) leaf m.rows)
leaf_ascends_in m leaf ascend = Pairwise-filter (λ (r x : Row). key_cmp r.key x.key ≡ Less) _ m.rows ascend
