use Rattle.std.proofs.Common.{◌≡◌, ◌+◌, ◌*◌, length, refl, arith}
use Rattle.tree_nodes.proofs.CopyLaws.{copies_joined}
use Rattle.tree_nodes.proofs.copies.share_blocks.Goals as goal

pub returns : goal.returns
returns c =
    let kept = c.loop-place.invariant in
    let all : length c.args.digests.now ≡ 16 * length c.loop-place.shared.items + 1 = omega
    (arith, kept.many, c.requires.copies.all, c.loop-place-test.false, c.loop-place.auto.place-end) in (
      refl,
      (
        kept.sixteen,
        copies_joined c.args.digests.now c.loop-place.shared.items all
            (λ p less. kept.each p (omega (arith, kept.many, less))) kept.sixteen,
      ),
    )
