use Rattle.std.proofs.Common.{Some, set, subst, sym, ap, ◌≡◌, ◌∙◌, IsTrue}
use Rattle.sha2.specs.Sha256.{sha256}
use Rattle.tree_nodes.specs.Nodes.{place_of, Tree}
use Rattle.range_tree.specs.Trees.{RangeTree, IsRangeTree}
use Rattle.range_tree.specs.Jobs.{is_current}
use Rattle.range_tree.proofs.TreeLaws.{shown}
use Rattle.range_tree.proofs.NodeLaws.{cleaned_right}
use Rattle.range_tree.proofs.tree.Tree.make_clean.Goals as goal
use Rattle.range_tree.proofs.tree.Tree.make_clean.Goals.{After-set}

-- the digests that were set
digests : (c : After-set)
    → c.set.new.self ≡ record {
      format = c.self.inside.format;
      digests = set c.self.inside.marks.digests (place_of c.args.node) (Some (sha256 c.args.hashed.now));
    }
digests c = c.set.ensures.digest
    ∙ (λ i. record { format = c.self.invariant.2 i; digests = set c.self.inside.marks.digests (place_of c.args.node) (Some (c.digest.ensures i)) })

-- are right
right : (c : After-set) → IsRangeTree (shown c.self.inside.format c.self.inside.bits c.self.inside.range c.self.inside.leaves c.set.new.self.digests)
right c =
    let s = shown c.self.inside.format c.self.inside.bits c.self.inside.range c.self.inside.leaves c.self.inside.marks.digests in
    cleaned_right s c.args.node c.args.hashed.now c.set.new.self c.self.invariant.0
    (subst (λ (t : RangeTree). IsTrue (is_current t c.args.node c.args.hashed.now)) (sym c.self.view_is) c.requires)
    (digests c) c.set.ensures.valid

pub invariant_of-self : goal.invariant_of-self
invariant_of-self c =
    let at = (goal.at.invariant_of-self c).After-set in
    (right at, c.self.invariant.1, ap (λ (t : Tree). t.format) (digests at))

pub returns-clause-valid : goal.returns-clause-valid
returns-clause-valid c = right (goal.at.returns-clause-valid c).After-set
