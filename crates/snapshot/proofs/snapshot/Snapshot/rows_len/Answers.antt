use Rattle.std.proofs.Common.{◌-◌, ◌^◌, List, subst, ap, ◌∙◌}
use Rattle.std.specs.Prelude.{min}
use Rattle.std.specs.List.{sum_by}
use Rattle.hash_tree.specs.Leaves.{Bucket}
use Rattle.hash_tree.specs.Sizes.{leaf_len}
use Rattle.snapshot.specs.RowMaps.{RowMap}
use Rattle.snapshot.specs.Snapshots.{IsSnapshot}
use Rattle.snapshot.proofs.SizeLaws.{leaves_len}
use Rattle.snapshot.proofs.snapshot.Snapshot.rows_len.Goals as goal

pub returns : goal.returns
returns c =
    let s = c.self.inside in
    let is = subst (λ (m : RowMap). IsSnapshot m s.leaves s.digests) c.self.view_is c.self.invariant in
    c.rows_len.ensures ∙ ap (λ n. min n (2 ^ 64 - 1)) (ap (λ (ls : List Bucket). sum_by leaf_len ls) is.leaves_are ∙ leaves_len c.args.self.now)
