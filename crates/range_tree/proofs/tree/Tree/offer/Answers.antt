use Rattle.std.proofs.Common.{◌≡◌, ◌<◌, ◌^◌, sym, ap, subst, ◌∙◌, arith}
use Rattle.vclock.specs.Outcome.{gives}
use Rattle.vclock.specs.declared.format.Format.{Format}
use Rattle.version_set.specs.Kind.{value_fault}
use Rattle.version_set.specs.Version.{offer_fault}
use Rattle.hash_tree.specs.Leaves.{Bucket}
use Rattle.hash_tree.specs.Blocks.{nth_leaf}
use Rattle.hash_tree.proofs.OutcomeLaws.{given}
use Rattle.tree_nodes.specs.Nodes.{tree_depth}
use Rattle.range_tree.specs.Trees.{RangeTree, IsRangeTree, AreLeaves, bucket_of, offered_to}
use Rattle.range_tree.proofs.TreeLaws.{Makes, key_within, nth_is, versions_here, leaf_below, leaves_of_tree, offer_makes}
use Rattle.range_tree.proofs.tree.Tree.offer.Goals as goal
use Rattle.range_tree.proofs.tree.Tree.offer.Goals.{After-self, After-dirty}

-- the leaves are those of the rows
are : (c : After-self) → AreLeaves c.args.self.now.map c.self.inside.leaves
are c = subst (λ (t : RangeTree). AreLeaves t.map c.self.inside.leaves) c.self.view_is c.self.invariant.1

-- so is the leaf of the key
leaf : (c : After-self) → nth_leaf c.self.inside.leaves c.args.leaf ≡ bucket_of c.args.self.now.map c.args.leaf
leaf c = nth_is c.args.self.now.map c.self.inside.leaves c.args.leaf c.args.key.now (are c) c.requires.leaf

pub offer-requires-clause-leaf : goal.offer-requires-clause-leaf
offer-requires-clause-leaf c =
    key_within c.args.self.now.map c.self.inside.leaves c.args.leaf c.args.key.now
    (are (goal.at.offer-requires-clause-leaf c).After-self) c.requires.leaf

pub offer-requires-clause-value : goal.offer-requires-clause-value
offer-requires-clause-value c =
    ap (λ (b : Bucket). value_fault b.format c.args.version.kind c.args.version.value) (leaf (goal.at.offer-requires-clause-value c).After-self)
    ∙ c.requires.value

pub offer-requires-clause-room : goal.offer-requires-clause-room
offer-requires-clause-room c =
    let ok = subst IsRangeTree c.self.view_is c.self.invariant.0 in
    ap (offer_fault c.args.version)
    (versions_here c.args.self.now.map c.args.leaf c.args.key.now (nth_leaf c.self.inside.leaves c.args.leaf) ok.rows c.requires.leaf
    (leaf (goal.at.offer-requires-clause-room c).After-self)) ∙ c.requires.room

pub dirty-requires : goal.dirty-requires
dirty-requires c =
    let m = c.args.self.now.map in
    let format = c.self.invariant.2 ∙ ap (λ (t : RangeTree). t.map.format) c.self.view_is in
    subst (λ (f : Format). c.args.leaf < 16 ^ tree_depth f) (sym format)
    (omega (arith, c.requires.leaf, leaf_below m.format m.bits c.args.key.now, leaves_of_tree m.format))

makes : (c : After-dirty)
    → Makes (offered_to c.args.self.now c.args.key.now c.args.version) c.self.inside.format c.self.inside.bits c.self.inside.range c.offer.new.self
    c.dirty.new.self
makes c =
    let i = c.self.inside in
    offer_makes c.args.self.now i.format i.bits i.range i.leaves i.marks c.args.leaf c.args.key.now c.args.version c.offer.new.self c.dirty.new.self
    (record { view = c.self.view_is; right = c.self.invariant.0; leaves_are = c.self.invariant.1; format_is = c.self.invariant.2 })
    c.requires.leaf (record {
      here = c.requires.here;
      key = c.requires.key;
      value = c.requires.value;
      clock = c.pairs-valid.ensures.valid;
      room = c.requires.room;
    })
    (given _ _ _ _ c.in_ok-offer.ensures).1 c.dirty.ensures.path

pub invariant_of-self-2 : goal.invariant_of-self-2
invariant_of-self-2 c =
    let tree = makes (goal.at.invariant_of-self-2 c).After-dirty in
    (tree.right, tree.leaves_are, tree.format_is)

pub returns : goal.returns
returns c = ap (λ (t : RangeTree). gives tt t) (sym (makes (goal.at.returns c).After-dirty).is)
