use Rattle.std.proofs.Common.{length, ap, arith}
use Rattle.c_calls.proofs.PackedLaws.{entry_length}
use Rattle.c_calls.proofs.packed.entry_len.Goals as goal

pub returns : goal.returns
returns c = omega (arith, entry_length c.args.format c.args.entry.now, c.version_len.ensures.exact, ap length c.as_slice.ensures)
