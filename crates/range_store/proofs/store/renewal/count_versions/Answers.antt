use Rattle.std.proofs.Common.{◌≡◌, ◌^◌, length, ap, ◌∙◌, arith, List}
use Rattle.std.proofs.lemmas.List.{length-append}
use Rattle.vclock.specs.declared.format.Format.{Format}
use Rattle.key_ring.specs.Places.{leaf_bits}
use Rattle.row_bytes.specs.declared.row.Row.{Row}
use Rattle.hash_tree.specs.Leaves.{Bucket, rows_in_leaf}
use Rattle.range_store.specs.Offers.{offers_of}
use Rattle.range_store.specs.Store.{leaf_in, leaf_count}
use Rattle.range_store.proofs.BatchLaws.{Offers}
use Rattle.range_store.proofs.RenewLaws.{leaves_from, leaves_more, leaf_part, rows_here}
use Rattle.range_store.proofs.store.renewal.count_versions.Goals as goal

pub version_count-count-requires : goal.version_count-count-requires
version_count-count-requires c =
    let config = c.args.config.now in
    let m = c.args.tree.now.map in
    let count : c.leaf_count-leaf-end.result ≡ leaf_count config = c.leaf_count-leaf-end.ensures
    ∙ ap (λ (f : Format). 2 ^ leaf_bits f) c.format.ensures in
    let here = ap (λ (b : Bucket). length (offers_of b.rows)) c.rows.ensures
    ∙ ap (λ (rs : List Row). length (offers_of rs)) (rows_here config m c.loop-leaf.leaf c.requires.of) in
    omega (arith, leaf_part config m.rows c.loop-leaf.leaf (omega (arith, count, c.loop-leaf-test.true)), here, c.requires.few)

pub overflow_add-count : goal.overflow_add-count
overflow_add-count c =
    let config = c.args.config.now in
    let m = c.args.tree.now.map in
    let count : c.leaf_count-leaf-end.result ≡ leaf_count config = c.leaf_count-leaf-end.ensures
    ∙ ap (λ (f : Format). 2 ^ leaf_bits f) c.format.ensures in
    let here = ap (λ (b : Bucket). length (offers_of b.rows)) c.rows.ensures
    ∙ ap (λ (rs : List Row). length (offers_of rs)) (rows_here config m c.loop-leaf.leaf c.requires.of) in
    omega (
      arith,
      leaf_part config m.rows c.loop-leaf.leaf (omega (arith, count, c.loop-leaf-test.true)),
      here,
      c.requires.few,
      c.loop-leaf.invariant,
      c.version_count-count.ensures,
    )

pub loop-leaf-preserved : goal.loop-leaf-preserved
loop-leaf-preserved c =
    let config = c.args.config.now in
    let m = c.args.tree.now.map in
    let leaf = c.loop-leaf.leaf in
    let here = ap (λ (b : Bucket). length (offers_of b.rows)) c.rows.ensures
    ∙ ap (λ (rs : List Row). length (offers_of rs)) (rows_here config m leaf c.requires.of) in
    let next = ap (λ (os : Offers). length os) (leaves_more (leaf_in config) m.rows leaf)
    ∙ length-append (offers_of (leaves_from (leaf_in config) m.rows 0 leaf)) (offers_of (rows_in_leaf (leaf_in config) leaf m.rows)) in
    omega (arith, here, next, c.loop-leaf.invariant, c.version_count-count.ensures)
