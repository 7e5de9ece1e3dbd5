use Rattle.std.proofs.Common.{◌≡◌, ℕ, ◌*◌, ◌^◌, List, [], Vec, Global, replicate, refl, arith, ap, ◌∙◌}
use Rattle.hash_tree.specs.Leaves.{Bucket}
use Rattle.tree_nodes.specs.Nodes.{tree_depth}
use Rattle.tree_nodes.specs.Blocks.{joined}
use Rattle.tree_nodes.proofs.BlockLaws.{joined-replicate}
use Rattle.hash_tree.proofs.leaves.Leaves.empty.Goals as goal

pub returns : goal.returns
returns c =
    let none : Bucket = record { format = c.args.format; rows = [] } in
    let all : 64 * c.loop.counter ≡ 16 ^ tree_depth c.args.format = omega
    (arith, c.block_count-count.ensures, c.loop.auto.counter-end, c.loop-test.false) in (
      refl,
      ap (λ (v : Vec (List Bucket) Global). joined v.items) c.in_ok-new.ensures.ok ∙ ap (λ (bs : List (List Bucket)). joined bs) c.loop.invariant
          ∙ joined-replicate 64 c.loop.counter none ∙ ap (λ (n : ℕ). replicate n none) all,
    )
