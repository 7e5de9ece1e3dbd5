use Rattle.std.proofs.Common.{◌≡◌, ◌++◌, ◌∷◌, ◌∙◌, ℕ, [], map, refl, ap, sym, arith}
use Rattle.std.specs.List.{range_with_len}
use Rattle.std.proofs.lemmas.List.FromFn.{map-range_with_len_more}
use Rattle.tree_nodes.specs.Nodes.{Node}
use Rattle.snapshot.specs.RowMaps.{digest_at}
use Rattle.text_patch.proofs.PartLaws.{child_digest, inner_parts}
use Rattle.text_patch.proofs.parts.digests_of.Goals as goal

pub loop-number-preserved : goal.loop-number-preserved
loop-number-preserved c =
    let own = c.args.own.now in
    let node = c.args.node in
    let number = c.loop-number.number in
    let digest : c.in_ok-copy_of.field-0 ≡ child_digest own node number =
    c.in_ok-copy_of.ensures.1 ∙ c.digest_at-digest.ensures ∙ ap (λ (n : Node). digest_at own n.depth n.index) c.child.ensures in
    let more : c.push.new.self.items ≡ map (child_digest own node) (range_with_len 0 number) ++ child_digest own node number ∷ [] =
    rw (c.in_ok-push.ensures.items, c.loop-number.invariant, digest) refl in
    more ∙ sym (map-range_with_len_more (child_digest own node) 0 number number (omega arith))

pub returns : goal.returns
returns c =
    let own = c.args.own.now in
    let node = c.args.node in
    let all : c.loop-number.number ≡ 16 = omega arith in
    (refl, c.loop-number.invariant ∙ ap (λ (n : ℕ). map (child_digest own node) (range_with_len 0 n)) all ∙ sym (inner_parts own node c.requires))
