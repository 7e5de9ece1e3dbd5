use Rattle.std.proofs.Common.{subst, ap, ◌∙◌}
use Rattle.tree_nodes.specs.Nodes.{place_of, kept_digest}
use Rattle.range_tree.specs.Trees.{RangeTree, IsRangeTree}
use Rattle.range_tree.proofs.NodeLaws.{digest_is}
use Rattle.range_tree.proofs.tree.Tree.digest_at.Goals as goal

pub returns-clause-right : goal.returns-clause-right
returns-clause-right c =
    digest_is c.args.self.now c.args.node c.get.result c.get.ensures.node (subst IsRangeTree c.self.view_is c.self.invariant.0)
    (c.get.ensures.digest ∙ ap (λ (s : RangeTree). kept_digest s.marks (place_of c.args.node)) c.self.view_is)
