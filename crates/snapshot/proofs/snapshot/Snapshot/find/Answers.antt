use Rattle.std.proofs.Common.{◌≡◌, ℕ, ap, ◌∙◌}
use Rattle.vclock.specs.declared.format.Format.{Format}
use Rattle.key_ring.specs.Places.{leaf_at}
use Rattle.hash_tree.specs.Leaves.{Bucket, rows_in_leaf, versions_in}
use Rattle.hash_tree.proofs.LeafLaws.{versions_in-rows_at}
use Rattle.snapshot.specs.RowMaps.{RowMap, leaf_in}
use Rattle.snapshot.proofs.RowLaws.{versions_fit}
use Rattle.snapshot.proofs.snapshot.Snapshot.find.Goals as goal

pub returns-clause-held : goal.returns-clause-held
returns-clause-held c =
    let m = c.args.self.now in
    let key = c.args.key.now in
    let at : c.place-leaf.result.leaf ≡ leaf_in m key =
    c.place-leaf.ensures.leaf ∙ ap (λ (f : Format). leaf_at f c.self.inside.bits key) c.format-format.ensures.format
    ∙ ap (λ (x : RowMap). leaf_at m.format x.bits key) c.self.view_is in
    c.new.ensures ∙ c.find.ensures.found ∙ ap (λ (b : Bucket). versions_in key b.rows) c.rows.ensures
    ∙ ap (λ (i : ℕ). versions_in key (rows_in_leaf (leaf_in m) i m.rows)) at
    ∙ versions_in-rows_at (leaf_in m) key m.rows c.format-format.ensures.valid.ascending

pub returns-clause-fit : goal.returns-clause-fit
returns-clause-fit c = versions_fit c.args.self.now.format c.args.key.now c.args.self.now.rows c.format-format.ensures.valid.each
