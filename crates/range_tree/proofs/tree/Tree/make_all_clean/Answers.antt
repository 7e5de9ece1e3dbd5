use Rattle.std.proofs.Common.{rules, ◌≡◌, ◌<◌, length, None, arith, sym, subst}
use Rattle.tree_nodes.specs.Nodes.{Node, place_of, kept_digest}
use Rattle.range_tree.proofs.CleaningLaws.{cleaning_next}
use Rattle.range_tree.proofs.tree.Tree.make_all_clean.Goals as goal

pub loop-i-preserved : goal.loop-i-preserved
loop-i-preserved c =
    let start = c.args.self.now in
    let i = c.loop-i.i in
    let node = c.index-nodes-i.result in
    let less : i < length c.args.nodes.now = omega arith in
    let back = sym c.index-nodes-i.is in
    let has = subst (λ (n : Node). place_of n < length start.marks) back (c.requires.has i node less) in
    let dirty = subst (λ (n : Node). kept_digest start.marks (place_of n) ≡ None) back (c.requires.dirty i node less) in
    cleaning_next start c.args.nodes.now c.args.hashed.now i c.loop-i.self c.make_clean.new.self node c.index-hashed-i.result c.loop-i.invariant less
    (search rules) has dirty c.make_clean.ensures.digest
