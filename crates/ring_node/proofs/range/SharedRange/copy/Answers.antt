use Rattle.std.proofs.Common.{rules}
use Rattle.ring_node.proofs.TellLaws.{sent_tells}
use Rattle.ring_node.proofs.range.SharedRange.copy.Goals as goal

pub returns-clause-reply : goal.returns-clause-reply
returns-clause-reply g c =
    (sent_tells c.deref_mut.result.now c.accept_hashed.new.self c.args.pass.now c.accept_hashed.new.pass c.args.source c.args.key.now c.args.version
    c.accept_hashed.result (search rules)).reply

pub returns-clause-refusal : goal.returns-clause-refusal
returns-clause-refusal g c =
    (sent_tells c.deref_mut.result.now c.accept_hashed.new.self c.args.pass.now c.accept_hashed.new.pass c.args.source c.args.key.now c.args.version
    c.accept_hashed.result (search rules)).refusal
