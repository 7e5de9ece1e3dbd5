use Rattle.std.proofs.Common.{arith}
use Rattle.row_bytes.proofs.Laws.{clock_in}
use Rattle.row_bytes.proofs.reader.version_of.Goals as goal

pub of_ascending-requires : goal.of_ascending-requires
of_ascending-requires c =
    clock_in c.args.format c.args.bytes.now (c.in_ok-kind.kind, c.in_ok-kind.rest.now) (c.in_ok-count.count, c.in_ok-count.rest.now)
    (c.in_ok-pairs.pairs.items, c.in_ok-pairs.rest.now)
    (λ i. omega (arith, c.type_inv.bytes i)) c.in_ok-kind.ensures c.in_ok-count.ensures c.in_ok-pairs.ensures
