use Rattle.std.proofs.Common.{length, arith, rules, ◌≡◌, set, get_or, ap, ◌∙◌}
use Rattle.std.proofs.lemmas.List.{set-get_or, get_or_default}
use Rattle.std.specs.Result.{IsOk}
use Rattle.hash_tree.specs.Leaves.{Bucket}
use Rattle.hash_tree.specs.Blocks.{nth_leaf, leaf_with_offer}
use Rattle.hash_tree.proofs.OutcomeLaws.{does_within, unshared}
use Rattle.hash_tree.proofs.leaf_block.LeafBlock.offer.Goals as goal

pub returns-clause-offered : goal.returns-clause-offered
returns-clause-offered c =
    let at = c.args.at in
    let leaf = c.index_mut.result.now in
    let put = λ (b : Bucket). set c.in_ok-make_mut.field-0.now.items at b in
    let same = unshared _ _ c.in_ok-make_mut.ensures.value ∙ c.self.view_is in
    let nth : get_or c.args.self.now at leaf ≡ nth_leaf c.args.self.now at = get_or_default c.args.self.now at leaf _
    (omega (arith, c.requires.at, c.self.invariant, ap length c.self.view_is)) in
    let is = rw same at c.index_mut.ensures.value in
    let ok : IsOk c.make_mut.result = search rules in
    rw c.make_mut.follows.holds
    (does_within put c.offer.result leaf c.offer.new.self _ tt c.args.self.now _ (ap put c.index_mut.ensures.value ∙ set-get_or _ at leaf ∙ same)
    (λ i. set (same i) at (leaf_with_offer c.args.key.now c.args.version ((is ∙ nth) i))) c.offer.ensures)
