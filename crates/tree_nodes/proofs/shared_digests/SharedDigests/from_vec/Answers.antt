use Rattle.std.proofs.Common.{◌≡◌, ℕ, ◌+◌, ◌*◌, List, take, drop, length, arith, sym, ap, subst, ◌∙◌}
use Rattle.std.proofs.lemmas.List.{length-take, length-drop}
use Rattle.tree_nodes.specs.Blocks.{joined, AreOf}
use Rattle.tree_nodes.proofs.BlockLaws.{joined-more, AreOf-push, drop_first}
use Rattle.tree_nodes.proofs.shared_digests.SharedDigests.from_vec.Goals as goal

pub loop-place-preserved : goal.loop-place-preserved
loop-place-preserved c =
    let place = c.loop-place.place in
    let digests = c.args.digests.items in
    let read : c.in_ok-new.field-0 ≡ take 16 (drop (16 * place + 1) digests) = c.in_ok-new.ensures.1 ∙ c.children_in.ensures
    ∙ ap (λ (xs : List (List ℕ)). take 16 (drop (16 * place + 1) xs)) c.deref.ensures.value in
    let block : c.in_ok-new.field-0 ≡ take 16 (drop (16 * place) (drop 1 digests)) = read
    ∙ ap (λ (xs : List (List ℕ)). take 16 xs) (drop_first (16 * place) digests) in
    let long : length c.in_ok-new.field-0 ≡ 16 = omega (
      arith,
      ap (λ (xs : List (List ℕ)). length xs) read,
      length-take 16 (drop (16 * place + 1) digests),
      length-drop (16 * place + 1) digests,
      c.requires,
      c.block_count-count.ensures,
      c.loop-place-test.true,
    ) in
    record {
      so_far = ap (λ (bs : List (List (List ℕ))). joined bs) c.in_ok-push.ensures.items
          ∙ joined-more 16 c.loop-place.blocks.items (drop 1 digests) place c.in_ok-new.field-0 c.loop-place.invariant.so_far block;
      each = subst (AreOf 16) (sym c.in_ok-push.ensures.items)
          (AreOf-push 16 c.loop-place.blocks.items c.in_ok-new.field-0 c.loop-place.invariant.each long);
    }
