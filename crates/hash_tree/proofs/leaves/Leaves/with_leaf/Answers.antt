use Rattle.std.proofs.Common.{rules, ◌≡◌, ◌/◌, ◌%◌, List, Vec, Global, get_or, set, refl, ap, ◌∙◌}
use Rattle.std.specs.Arc.{arc_value}
use Rattle.hash_tree.specs.Leaves.{Bucket}
use Rattle.tree_nodes.specs.Blocks.{joined}
use Rattle.tree_nodes.proofs.BlockLaws.{set_at}
use Rattle.hash_tree.proofs.leaves.Leaves.with_leaf.Goals as goal

pub returns : goal.returns
returns c =
    let v = arc_value c.self.inside.blocks in
    let block = c.index_mut.result.now in
    let leaf = c.args.leaf in
    let same : c.in_ok-blocks.blocks.items ≡ v.items = search rules in
    let is : block ≡ get_or v.items (leaf / 64) block = rw same at c.index_mut.ensures.value in
    let new : c.set.new.self ≡ set block (leaf % 64) c.args.new = search rules in (
      refl,
      ap (λ (x : Vec (List Bucket) Global). joined x.items) c.in_ok-new.ensures.ok ∙ (λ i. joined (set (same i) (leaf / 64) (new i)))
          ∙ set_at v.items c.args.self.now leaf block c.args.new c.self.view_is c.self.invariant c.requires is,
    )
