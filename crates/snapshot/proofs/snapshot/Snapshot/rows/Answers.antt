use Rattle.std.proofs.Common.{subst, ◌∙◌, arith}
use Rattle.hash_tree.specs.Leaves.{Bucket}
use Rattle.snapshot.specs.RowMaps.{RowMap}
use Rattle.snapshot.specs.Snapshots.{IsSnapshot}
use Rattle.snapshot.proofs.ShownLaws.{leaf_count, leaf_shown}
use Rattle.snapshot.proofs.snapshot.Snapshot.rows.Goals as goal

pub get-requires : goal.get-requires
get-requires c =
    let s = c.self.inside in
    let is = subst (λ (m : RowMap). IsSnapshot m s.leaves s.digests) c.self.view_is c.self.invariant in
    omega (arith, c.requires, leaf_count c.args.self.now s.leaves s.digests is)

pub returns : goal.returns
returns c =
    let s = c.self.inside in
    let is = subst (λ (m : RowMap). IsSnapshot m s.leaves s.digests) c.self.view_is c.self.invariant in
    let leaf : Bucket = c.get.result.now in
    c.get.ensures leaf ∙ leaf_shown c.args.self.now s.leaves s.digests c.args.leaf leaf is c.requires
