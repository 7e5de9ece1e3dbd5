use Rattle.std.proofs.Common.{refl}
use Rattle.range_tree.proofs.CleaningLaws.{fewer}
use Rattle.range_tree.proofs.tree.Tree.rehash_some.Goals as goal

pub returns-clause-some : goal.returns-clause-some
returns-clause-some c =
    let ready = c.in_ok-hashed.ensures in (
      (refl, c.dirty_count-left.ensures.count),
      ready.ok,
      λ some dirty. fewer c.args.self.now.marks c.rehash_ready-hashed.new.self.marks c.in_ok-hashed.field-0 ready.more
          (λ none. ready.none none some) dirty,
      tt,
    )
