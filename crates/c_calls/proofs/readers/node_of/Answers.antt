use Rattle.std.proofs.Common.{arith}
use Rattle.c_calls.proofs.ReaderLaws.{no_node}
use Rattle.c_calls.proofs.readers.node_of.Goals as goal

pub returns-then-index-from : goal.returns-then-index-from
returns-then-index-from c = no_node c.args.snapshot.now c.args.depth c.args.index (omega (arith, c.if-index-from.true, c.from-2.ensures))
