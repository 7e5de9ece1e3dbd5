use Rattle.std.proofs.Common.{◌≡◌, ◌+◌, ◌*◌, ◌-◌, List, take, drop, length, arith, sym, ap, subst, ◌∙◌}
use Rattle.std.proofs.lemmas.List.{length-take, length-drop}
use Rattle.hash_tree.specs.Leaves.{Bucket}
use Rattle.tree_nodes.specs.Blocks.{joined, AreOf}
use Rattle.tree_nodes.proofs.BlockLaws.{joined-more, AreOf-push}
use Rattle.hash_tree.proofs.leaves.Leaves.from_vec.Goals as goal

pub loop-number-preserved : goal.loop-number-preserved
loop-number-preserved c =
    let first = 64 * c.loop-number.number in
    let sixty_four : first + 64 - first ≡ 64 = omega arith in
    let block : c.in_ok-of.field-0 ≡ take 64 (drop first c.args.leaves.items) = c.in_ok-of.ensures.1
    ∙ (λ i. take (sixty_four i) (drop first (c.deref.ensures.value i))) in
    let long : length c.in_ok-of.field-0 ≡ 64 = omega (
      arith,
      ap (λ (xs : List Bucket). length xs) block,
      length-take 64 (drop first c.args.leaves.items),
      length-drop first c.args.leaves.items,
      c.requires,
      c.block_count-count.ensures,
      c.loop-number-test.true,
    ) in
    record {
      so_far = ap (λ (bs : List (List Bucket)). joined bs) c.in_ok-push.ensures.items
          ∙ joined-more 64 c.loop-number.blocks.items c.args.leaves.items c.loop-number.number c.in_ok-of.field-0 c.loop-number.invariant.so_far
          block;
      each = subst (AreOf 64) (sym c.in_ok-push.ensures.items)
          (AreOf-push 64 c.loop-number.blocks.items c.in_ok-of.field-0 c.loop-number.invariant.each long);
    }
