use Rattle.std.proofs.Common.{rules, tests}
use Rattle.std.proofs.lemmas.Iterator.{YieldsList-from_slice}
use Rattle.std.proofs.lemmas.Iterator.Search.{any_from_yields_List}
use Rattle.tree_nodes.specs.Nodes.{is_same_node}
use Rattle.sync_session.proofs.node_list.has.Goals as goal

pub returns : goal.returns
returns c = any_from_yields_List (is_same_node c.args.node) _ _ _ c.any.ensures.ran (YieldsList-from_slice c.args.nodes.now cc)
    (λ x b q k. search (rules, tests))
