use Rattle.std.proofs.Common.{◌≡◌, ◌∷◌, ◌++◌, [], sym, ap, ◌∙◌}
use Rattle.vclock.specs.declared.format.Format.TheVariants.{Two}
use Rattle.range_journal.specs.declared.journal.Entry.{Entry}
use Rattle.key_ring.specs.Places.{leaf_at}
use Rattle.hash_tree.specs.Leaves.{versions_in}
use Rattle.range_store.specs.TableRows.{row_from}
use Rattle.range_store.proofs.BatchLaws.{map_next}
use Rattle.range_store.proofs.store.table_rows.rows_from_tree.Goals as goal

pub loop-entry-preserved : goal.loop-entry-preserved
loop-entry-preserved c =
    let bits = c.args.config.now.bits in
    let rows = c.args.tree.now.map.rows in
    let e : Entry = c.entry-item.result in
    let leaf : c.wide_leaf.result ≡ leaf_at Two bits e.key = c.wide_leaf.ensures ∙ ap (leaf_at Two bits) c.as_slice-key.ensures in
    let set = c.find-held.ensures ∙ ap (λ k. versions_in k rows) c.as_slice-key.ensures in
    let row : c.in_ok-row_with.field-0 ≡ row_from bits rows e = c.in_ok-row_with.ensures.1
    ∙ (λ i. record { key = e.key; leaf = leaf i; set = set i }) in
    c.in_ok-push.ensures.items ∙ (λ i. c.loop-entry.invariant i ++ row i ∷ [])
    ∙ sym (map_next (row_from bits rows) c.args.entries.now c.loop-entry.entry-index e c.loop-entry-test.true c.entry-item.is)
