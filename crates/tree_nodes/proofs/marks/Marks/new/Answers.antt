use Rattle.std.proofs.Common.{◌≡◌, ℕ, List, Option, None, arith, replicate, sym, ap, subst, ◌∙◌}
use Rattle.std.proofs.lemmas.List.{length-replicate}
use Rattle.tree_nodes.specs.Nodes.{node_count}
use Rattle.tree_nodes.specs.Blocks.{AreMarks}
use Rattle.tree_nodes.proofs.DirtyLaws.{count_fresh}
use Rattle.tree_nodes.proofs.TreeLaws.{tree_fresh}
use Rattle.tree_nodes.proofs.marks.Marks.new.Goals as goal

pub invariant_of-result : goal.invariant_of-result
invariant_of-result c =
    let all : c.loop.counter ≡ node_count c.args.format = omega (arith, c.loop.auto.counter-end, c.loop-test.false, c.count_of-count.ensures) in
    let none : Option (List ℕ) = None in
    subst (λ (xs : List (Option (List ℕ))). AreMarks c.args.format xs 0 c.in_ok-no_blocks.field-0.items None)
    (sym (c.loop.invariant ∙ ap (λ (n : ℕ). replicate n none) all))
    (record {
      tree = tree_fresh c.args.format;
      counted = omega (arith, count_fresh (node_count c.args.format), length-replicate (node_count c.args.format) none);
      copies =
          c.in_ok-no_blocks.ensures.1;
      whole = tt;
    })
