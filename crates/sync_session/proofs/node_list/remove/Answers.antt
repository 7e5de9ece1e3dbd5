use Rattle.std.proofs.Common.{◌≡◌, List, length, filter, not, rules, ap, arith}
use Rattle.std.proofs.lemmas.Fn.{filter_same}
use Rattle.tree_nodes.specs.Nodes.{Node, is_same_node}
use Rattle.sync_session.proofs.StepLaws.{fewer}
use Rattle.sync_session.proofs.node_list.remove.Goals as goal

pub returns-clause-kept : goal.returns-clause-kept
returns-clause-kept c = filter_same _ (λ n. not (is_same_node n c.args.node)) _ (λ x r f' k. search rules) _ _ c.retain.ensures.filtered

pub returns-clause-fewer : goal.returns-clause-fewer
returns-clause-fewer c = λ has.
    let left : c.retain.new.self.items ≡ filter (λ n. not (is_same_node n c.args.node)) c.args.nodes.now.items = returns-clause-kept c in
    omega (
      arith,
      fewer c.args.nodes.now.items c.args.node has,
      ap (λ (xs : List Node). length xs) left,
      c.retain.new.self.ok.0,
      c.args.nodes.now.ok.0,
    )
