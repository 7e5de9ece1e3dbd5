use Rattle.std.proofs.Common.{refl}
use Rattle.range_store.specs.Store.{Store}
use Rattle.range_store.proofs.OfferLaws.{tree_is}
use Rattle.range_store.proofs.store.RangeStore.tree.Goals as goal

pub returns : goal.returns
returns c =
    let s : Store = record { config = c.self.inside.config; entries = c.self.inside.journal.entries; marks = c.self.inside.tree.marks } in
    tree_is s c.args.self.now c.self.inside.tree c.self.view_is c.self.invariant.1 refl
