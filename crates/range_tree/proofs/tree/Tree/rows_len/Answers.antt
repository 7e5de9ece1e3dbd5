use Rattle.std.proofs.Common.{◌-◌, ◌^◌, List, subst, ap, ◌∙◌}
use Rattle.std.specs.Prelude.{min}
use Rattle.std.specs.List.{sum_by}
use Rattle.hash_tree.specs.Leaves.{Bucket}
use Rattle.hash_tree.specs.Sizes.{leaf_len}
use Rattle.snapshot.proofs.SizeLaws.{leaves_len}
use Rattle.range_tree.specs.Trees.{RangeTree, AreLeaves}
use Rattle.range_tree.proofs.TreeLaws.{leaves_are}
use Rattle.range_tree.proofs.tree.Tree.rows_len.Goals as goal

pub returns : goal.returns
returns c =
    let t = c.args.self.now in
    let are = subst (λ (x : RangeTree). AreLeaves x.map c.self.inside.leaves) c.self.view_is c.self.invariant.1 in
    c.rows_len.ensures ∙ ap (λ n. min n (2 ^ 64 - 1)) (ap (λ (ls : List Bucket). sum_by leaf_len ls) (leaves_are t.map c.self.inside.leaves are)
    ∙ leaves_len t.map)
