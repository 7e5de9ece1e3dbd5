-- Nodes of trees: which there are, and what is shown of them.
use Rattle.std.proofs.Common.{◌≡◌, ℕ, zero, suc, ◌<◌, ◌≤◌, ◌^◌, None, false, arith, refl, ap, ◌∙◌}
use Rattle.std.specs.Prelude.{nat_le, nat_lt}
use Rattle.std.proofs.lemmas.Bool.{and_left, and_right, lt-leb, le-ltb}
use Rattle.vclock.specs.declared.format.Format.{Format}
use Rattle.vclock.specs.declared.format.Format.TheVariants.{One, Two}
use Rattle.tree_nodes.specs.Nodes.{tree_depth, place_at}
use Rattle.range_store.specs.Config.{Config}
use Rattle.range_store.specs.Store as range
use Rattle.range_tree.proofs.TreeLaws.{all_dirty-at}
use Rattle.outage_cluster.specs.Acts.{is_tree_node, shown_digest}

-- no tree has a node below its leaves
pub too_deep : (format : Format) (depth index : ℕ) → tree_depth format < depth → is_tree_node format depth index ≡ false
too_deep format depth index h = and_left (nat_le depth (tree_depth format)) (nat_lt index (16 ^ depth)) (lt-leb depth (tree_depth format) h)

few : (format : Format) (depth : ℕ) → depth ≤ tree_depth format → 16 ^ depth ≤ 4096
few format zero h = omega arith
few format (suc zero) h = omega arith
few format (suc (suc zero)) h = omega arith
few format (suc (suc (suc zero))) h = omega arith
few One (suc (suc (suc (suc d)))) h = absurd (omega (arith, h))
few Two (suc (suc (suc (suc d)))) h = absurd (omega (arith, h))

-- no tree has so many nodes of a depth
pub too_wide : (format : Format) (depth index : ℕ) → depth ≤ tree_depth format → 65535 < index → is_tree_node format depth index ≡ false
too_wide format depth index low h =
    and_right (nat_le depth (tree_depth format)) (nat_lt index (16 ^ depth)) (le-ltb index (16 ^ depth) (omega (arith, few format depth low, h)))

-- a range that has accepted nothing shows no digest
pub shows_none : (c : Config) (h : range.Store) (depth index : ℕ) → h ≡ range.fresh c → shown_digest depth index h ≡ None
shows_none c h depth index is = ap (shown_digest depth index) is ∙ none
  where
    none : shown_digest depth index (range.fresh c) ≡ None
    none = rw (all_dirty-at c.format (place_at depth index)) refl
