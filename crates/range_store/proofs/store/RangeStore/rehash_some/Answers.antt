use Rattle.std.proofs.Common.{◌≡◌, refl, sym, subst}
use Rattle.range_tree.specs.Rehashes.{HashesSome}
use Rattle.range_store.specs.Store.{Store, tree_in, with_tree}
use Rattle.range_store.proofs.OfferLaws.{tree_is, some_hashed}
use Rattle.range_store.proofs.store.RangeStore.rehash_some.Goals as goal

pub returns : goal.returns
returns c =
    let s : Store = record { config = c.self.inside.config; entries = c.self.inside.journal.entries; marks = c.self.inside.tree.marks } in
    let now = c.args.self.now in
    let tree = tree_is s now c.self.inside.tree c.self.view_is c.self.invariant.1 refl in
    let is : record {
      config = c.self.inside.config;
      entries = c.self.inside.journal.entries;
      marks = c.rehash_some.new.self.marks;
    } ≡ with_tree now c.rehash_some.new.self = λ i. record {
      config = (c.self.view_is i).config;
      entries =
          (c.self.view_is i).entries;
      marks = c.rehash_some.new.self.marks;
    } in
    let some : HashesSome c.rehash_some.result c.args.most (tree_in now)
    (tree_in (with_tree now c.rehash_some.new.self)) =
    some_hashed c.rehash_some.result c.args.most now c.self.inside.tree c.rehash_some.new.self tree c.rehash_some.ensures.some in
    (is, subst (λ (t : Store). HashesSome c.rehash_some.result c.args.most (tree_in now) (tree_in t)) (sym is) some)
