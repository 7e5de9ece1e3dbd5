use Rattle.outage_commands.proofs.TreeLemmas.{unsigned_number}
use Rattle.outage_commands.proofs.tree.without_sign.Goals as goal

pub returns : goal.returns
returns c = unsigned_number c.args.numeral.now c.to_u64.result c.to_u64.ensures
