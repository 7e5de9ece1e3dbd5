use Rattle.std.proofs.Common.{subst}
use Rattle.range_tree.specs.Trees.{RangeTree, IsRangeTree}
use Rattle.range_tree.proofs.NodeLaws.{Found, found_has, found_is_ready}
use Rattle.range_tree.proofs.tree.Tree.next_ready.Goals as goal

pub returns-clause-has : goal.returns-clause-has
returns-clause-has c = found_has c.args.self.now c.args.from c.next_ready.result c.next_ready.ensures.node
    (subst IsRangeTree c.self.view_is c.self.invariant.0)
    (subst (λ (s : RangeTree). Found s c.args.from c.next_ready.result) c.self.view_is c.next_ready.ensures.order)

pub returns-clause-ready : goal.returns-clause-ready
returns-clause-ready c =
    found_is_ready c.args.self.now c.args.from c.next_ready.result
    (subst (λ (s : RangeTree). Found s c.args.from c.next_ready.result) c.self.view_is c.next_ready.ensures.order)
