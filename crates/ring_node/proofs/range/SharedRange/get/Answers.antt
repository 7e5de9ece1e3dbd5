use Rattle.std.proofs.Common.{rules}
use Rattle.ring_node.proofs.TellLaws.{read_refused}
use Rattle.ring_node.proofs.range.SharedRange.get.Goals as goal

pub returns-clause-behind : goal.returns-clause-behind
returns-clause-behind g c = read_refused c.deref-2.result.now c.args.pass.now c.read.new.pass c.args.key.now c.read.result (search rules)
    (search rules)
