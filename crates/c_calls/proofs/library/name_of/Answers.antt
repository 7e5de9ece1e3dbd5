use Rattle.std.proofs.Common.{[], sym, arith}
use Rattle.std.proofs.lemmas.List.{get_or_past}
use Rattle.c_calls.specs.Library.{names}
use Rattle.c_calls.proofs.library.name_of.Goals as goal

pub returns-in-38-to-4294967295 : goal.returns-in-38-to-4294967295
returns-in-38-to-4294967295 c = sym (get_or_past names c.args.number [] (omega (arith, c.in-38-to-4294967295)))
