use Rattle.std.proofs.Common.{◌≡◌, ◌∷◌, ◌++◌, [], replicate, ◌∙◌}
use Rattle.sha2.specs.Sha256.{sha256}
use Rattle.test_core.proofs.snapshots.digests_by_place.Goals as goal

pub returns : goal.returns
returns c =
    let one : c.push.new.self.items ≡ sha256 c.args.root.now ∷ [] = c.in_ok-push.ensures.items
    ∙ (λ i. c.new-digests.ensures.items i ++ c.digest.ensures i ∷ []) in
    let two : c.extend_from_slice.new.self.items ≡ (sha256 c.args.root.now ∷ []) ++ replicate 16
    (sha256 c.args.inner.now) = c.in_ok-extend_from_slice.ensures.items ∙ (λ i. one i ++ replicate 16 (c.digest-2.ensures i)) in
    c.in_ok-extend_from_slice-2.ensures.items ∙ (λ i. two i ++ replicate 256 (c.digest-3.ensures i))
