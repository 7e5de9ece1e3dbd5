use Rattle.std.proofs.Common.{◌≡◌, true, rules}
use Rattle.range_store.specs.Loads.{first_leaf}
use Rattle.range_store.proofs.LoadLaws.{are_home, home_together}
use Rattle.range_store.proofs.leaf_rows.leaf_of.Goals as goal

pub returns-clause-leaf : goal.returns-clause-leaf
returns-clause-leaf c =
    let config = c.args.config.now in
    let rows = c.args.rows.now in
    let leaf = c.place_in-leaf.result.leaf in
    let all : are_home config leaf rows ≡ true = search rules in
    let first : leaf ≡ first_leaf config rows = search rules in
    (home_together config leaf rows first all, first)
