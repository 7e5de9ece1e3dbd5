use Rattle.std.proofs.Common.{subst, ap, ◌∙◌, arith}
use Rattle.hash_tree.specs.Texts.{inner_text}
use Rattle.snapshot.specs.RowMaps.{RowMap}
use Rattle.snapshot.specs.Snapshots.{IsSnapshot}
use Rattle.snapshot.proofs.ShownLaws.{children_within, inner_text_at}
use Rattle.snapshot.proofs.snapshot.Snapshot.children.Goals as goal

pub children-requires : goal.children-requires
children-requires c =
    let s = c.self.inside in
    let is = subst (λ (m : RowMap). IsSnapshot m s.leaves s.digests) c.self.view_is c.self.invariant in
    omega (arith, children_within c.args.self.now s.leaves s.digests c.args.node.depth c.args.node.index is c.requires.inner c.requires.node.within)

pub returns : goal.returns
returns c =
    let s = c.self.inside in
    let is = subst (λ (m : RowMap). IsSnapshot m s.leaves s.digests) c.self.view_is c.self.invariant in
    ap (inner_text c.args.self.now.format) c.children.ensures
    ∙ inner_text_at c.args.self.now s.leaves s.digests c.args.node.depth c.args.node.index is c.requires.inner c.requires.node.within
