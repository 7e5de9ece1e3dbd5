use Rattle.std.proofs.Common.{sym, subst}
use Rattle.hash_tree.specs.Leaves.{AscendByKey, Bucket}
use Rattle.c_calls.proofs.ReaderLaws.{leaf_ascends_in}
use Rattle.c_calls.proofs.readers.show_key_next.Goals as goal

pub next_key-requires : goal.next_key-requires
next_key-requires c =
    subst (λ (b : Bucket). AscendByKey b.rows) (sym c.rows.ensures) (leaf_ascends_in c.args.snapshot.now c.args.leaf c.format.ensures.valid.ascending)
