use Rattle.std.proofs.Common.{rules}
use Rattle.std.proofs.lemmas.Fn.{always_returns_same}
use Rattle.row_bytes.specs.declared.row.Row.{Row}
use Rattle.hash_tree.specs.Leaves.{key_cmp}
use Rattle.hash_tree.proofs.SearchLaws.{found}
use Rattle.hash_tree.proofs.chunks.find_place.Goals as goal

pub returns : goal.returns
returns c =
    found c.args.rows.now c.args.key.now c.binary_search_by.result c.requires c.binary_search_by.ensures.bound
    (c.binary_search_by.ensures.position (λ (r : Row). key_cmp r.key c.args.key.now) (always_returns_same _ _ _ (λ a r q k. search rules)))
