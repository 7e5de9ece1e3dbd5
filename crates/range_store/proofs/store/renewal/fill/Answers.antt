use Rattle.std.proofs.Common.{◌≡◌, ◌+◌, ◌++◌, ◌^◌, List, length, map, sym, ap, subst, ◌∙◌, append_assoc, arith}
use Rattle.std.specs.List.{AllByRecursion}
use Rattle.std.proofs.lemmas.List.{map-append}
use Rattle.vclock.specs.declared.format.Format.{Format}
use Rattle.key_ring.specs.Places.{leaf_bits}
use Rattle.range_journal.specs.Log.{Log}
use Rattle.row_bytes.specs.declared.row.Row.{Row}
use Rattle.row_table.specs.declared.table.TableRow.{TableRow}
use Rattle.hash_tree.specs.Leaves.{Bucket, rows_in_leaf}
use Rattle.range_store.specs.Offers.{offers_of}
use Rattle.range_store.specs.Store.{leaf_in, leaf_count}
use Rattle.range_store.specs.Renewals.{with_copies}
use Rattle.range_store.specs.TableRows.{row_of}
use Rattle.range_store.proofs.RenewLaws.{leaves_from, leaves_more, rows_more, leaf_part, leaf_filter, rows_here, with_copies_of}
use Rattle.range_store.proofs.store.renewal.fill.Goals as goal

pub fill_leaf-requires-clause-homes : goal.fill_leaf-requires-clause-homes
fill_leaf-requires-clause-homes c =
    let config = c.args.config.now in
    let m = c.args.tree.now.map in
    let leaf = c.loop-leaf.leaf in
    let here = ap (λ (b : Bucket). b.rows) c.rows.ensures ∙ rows_here config m leaf c.requires.of in
    subst (AllByRecursion (λ (r : Row). leaf_in config r.key ≡ leaf)) (sym here) (leaf_filter (leaf_in config) leaf m.rows)

pub fill_leaf-requires-clause-room : goal.fill_leaf-requires-clause-room
fill_leaf-requires-clause-room c =
    let config = c.args.config.now in
    let m = c.args.tree.now.map in
    let count : c.leaf_count-leaf-end.result ≡ leaf_count config = c.leaf_count-leaf-end.ensures
    ∙ ap (λ (f : Format). 2 ^ leaf_bits f) c.format.ensures in
    let here = ap (λ (b : Bucket). length (offers_of b.rows)) c.rows.ensures
    ∙ ap (λ (rs : List Row). length (offers_of rs)) (rows_here config m c.loop-leaf.leaf c.requires.of) in
    let left = ap (λ (log : Log). log.room) c.loop-leaf.invariant.entries in
    omega (arith, leaf_part config m.rows c.loop-leaf.leaf (omega (arith, count, c.loop-leaf-test.true)), here, left, c.requires.room)

pub loop-leaf-preserved : goal.loop-leaf-preserved
loop-leaf-preserved c =
    let config = c.args.config.now in
    let m = c.args.tree.now.map in
    let f = leaf_in config in
    let leaf = c.loop-leaf.leaf in
    let start = c.args.table.now.rows in
    let to = row_of config.bits in
    let here = ap (λ (b : Bucket). b.rows) c.rows.ensures ∙ rows_here config m leaf c.requires.of in
    record {
      entries = c.in_ok-fill_leaf.ensures.1.0
          ∙ ap (λ (rs : List Row). with_copies c.loop-leaf.journal c.args.seat (offers_of rs)) here
          ∙ ap (λ (log : Log). with_copies log c.args.seat (offers_of (rows_in_leaf f leaf m.rows))) c.loop-leaf.invariant.entries
          ∙ with_copies_of c.args.journal.now c.args.seat (offers_of (leaves_from f m.rows 0 leaf)) (offers_of (rows_in_leaf f leaf m.rows))
          (offers_of (leaves_from f m.rows 0 (leaf + 1))) (leaves_more f m.rows leaf);
      rows = c.in_ok-fill_leaf.ensures.1.1
          ∙ (λ i. c.loop-leaf.invariant.rows i ++ map to (here i))
          ∙ append_assoc start (map to (leaves_from f m.rows 0 leaf)) (map to (rows_in_leaf f leaf m.rows))
          ∙ ap (λ (rs : List TableRow). start ++ rs) (sym (map-append to (leaves_from f m.rows 0 leaf) (rows_in_leaf f leaf m.rows))
          ∙ ap (map to) (sym (rows_more f m.rows leaf)));
    }
