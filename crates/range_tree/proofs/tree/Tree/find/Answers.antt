use Rattle.std.proofs.Common.{◌<◌, ◌^◌, subst, ◌∙◌, arith}
use Rattle.key_ring.specs.Places.{leaf_bits}
use Rattle.range_tree.specs.Trees.{RangeTree, IsRangeTree, AreLeaves}
use Rattle.range_tree.proofs.TreeLaws.{leaf_below, key_within, versions_here}
use Rattle.range_tree.proofs.tree.Tree.find.Goals as goal
use Rattle.range_tree.proofs.tree.Tree.find.Goals.{After-self}

-- the leaves are those of the rows
are : (c : After-self) → AreLeaves c.args.self.now.map c.self.inside.leaves
are c = subst (λ (t : RangeTree). AreLeaves t.map c.self.inside.leaves) c.self.view_is c.self.invariant.1

pub get-requires : goal.get-requires
get-requires c = key_within c.args.self.now.map c.self.inside.leaves c.args.leaf c.args.key.now (are (goal.at.get-requires c).After-self) c.requires

pub returns : goal.returns
returns c =
    let m = c.args.self.now.map in
    let leaf = c.get.result.now in
    let ok = subst IsRangeTree c.self.view_is c.self.invariant.0 in
    let within : c.args.leaf < 2 ^ leaf_bits m.format = omega (arith, c.requires, leaf_below m.format m.bits c.args.key.now) in
    c.new.ensures ∙ c.find.ensures.found
    ∙ versions_here m c.args.leaf c.args.key.now leaf ok.rows c.requires
    (c.get.ensures leaf ∙ (are (goal.at.returns c).After-self).each c.args.leaf leaf within)
