use Rattle.std.proofs.Common.{ap, sym, ◌∙◌, subst}
use Rattle.snapshot.specs.Snapshots.{map_of, IsSnapshot}
use Rattle.snapshot.specs.RowMaps.{RowMap}
use Rattle.range_tree.specs.Trees.{RangeTree}
use Rattle.range_tree.proofs.TreeLaws.{shown, snapshot_now}
use Rattle.range_tree.proofs.tree.Tree.snapshot_with.Goals as goal

pub of_shared-requires : goal.of_shared-requires
of_shared-requires c =
    let i = c.self.inside in
    let same = c.in_ok-share.ensures.1 in
    subst (λ (m : RowMap). IsSnapshot m c.in_ok-share.field-0 c.args.digests) (ap (map_of i.format i.bits i.range) (sym same))
    (snapshot_now (shown i.format i.bits i.range i.leaves i.marks.digests) i.leaves c.in_ok-share.field-0 c.args.digests c.self.invariant.0
    c.self.invariant.1 same (c.requires ∙ ap (λ (t : RangeTree). t.marks) (sym c.self.view_is)))
