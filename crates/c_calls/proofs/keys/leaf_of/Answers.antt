use Rattle.std.proofs.Common.{sym, ap, subst, ◌∙◌}
use Rattle.hash_tree.specs.Leaves.{AscendByKey, Bucket}
use Rattle.range_tree.specs.Trees.{RangeTree, bucket_of}
use Rattle.range_store.specs.Store.{leaf_in}
use Rattle.c_calls.proofs.KeyLaws.{leaf_ascends}
use Rattle.c_calls.proofs.keys.leaf_of.Goals as goal

pub returns-clause-ascend : goal.returns-clause-ascend
returns-clause-ascend c =
    let s = c.store-2.result.now in
    let rows = ap (λ (b : Bucket). b.rows) c.rows.ensures ∙ ap (λ (t : RangeTree). (bucket_of t.map c.args.leaf).rows) c.tree.ensures in
    subst AscendByKey (sym rows) (leaf_ascends (leaf_in s.config) c.args.leaf s.entries)
