use Rattle.std.proofs.Common.{[], subst, ◌∙◌, arith}
use Rattle.snapshot.specs.RowMaps.{RowMap}
use Rattle.snapshot.specs.Snapshots.{IsSnapshot}
use Rattle.snapshot.proofs.ShownLaws.{digest_within, digest_shown}
use Rattle.snapshot.proofs.snapshot.Snapshot.root.Goals as goal

pub get-requires : goal.get-requires
get-requires c =
    let s = c.self.inside in
    let is = subst (λ (m : RowMap). IsSnapshot m s.leaves s.digests) c.self.view_is c.self.invariant in
    rw c.root.ensures (digest_within c.args.self.now s.leaves s.digests 0 0 is (omega arith) (omega arith))

pub returns : goal.returns
returns c =
    let s = c.self.inside in
    let is = subst (λ (m : RowMap). IsSnapshot m s.leaves s.digests) c.self.view_is c.self.invariant in
    c.get.ensures [] ∙ rw c.root.ensures (digest_shown c.args.self.now s.leaves s.digests 0 0 [] is (omega arith) (omega arith))
