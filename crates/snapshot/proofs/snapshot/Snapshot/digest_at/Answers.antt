use Rattle.std.proofs.Common.{[], subst, ◌∙◌}
use Rattle.tree_nodes.specs.Nodes.{IsNode}
use Rattle.snapshot.specs.RowMaps.{RowMap}
use Rattle.snapshot.specs.Snapshots.{IsSnapshot}
use Rattle.snapshot.proofs.ShownLaws.{digest_within, digest_shown}
use Rattle.snapshot.proofs.snapshot.Snapshot.digest_at.Goals as goal

pub get-requires : goal.get-requires
get-requires c =
    let s = c.self.inside in
    let is = subst (λ (m : RowMap). IsSnapshot m s.leaves s.digests) c.self.view_is c.self.invariant in
    digest_within c.args.self.now s.leaves s.digests c.args.node.depth c.args.node.index is c.requires
    (subst (IsNode 3) c.node.view_is c.node.invariant).within

pub returns : goal.returns
returns c =
    let s = c.self.inside in
    let is = subst (λ (m : RowMap). IsSnapshot m s.leaves s.digests) c.self.view_is c.self.invariant in
    c.get.ensures [] ∙ digest_shown c.args.self.now s.leaves s.digests c.args.node.depth c.args.node.index [] is c.requires
    (subst (IsNode 3) c.node.view_is c.node.invariant).within
