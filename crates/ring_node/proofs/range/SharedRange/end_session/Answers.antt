use Rattle.std.proofs.Common.{rules}
use Rattle.ring_node.proofs.EndLaws.{ended_in}
use Rattle.ring_node.proofs.range.SharedRange.end_session.Goals as goal

pub returns-clause-end : goal.returns-clause-end
returns-clause-end g c = record {
  state = c.cancel_session.new.self;
  right = search rules;
  seen = ended_in c.deref_mut.result.now c.cancel_session.new.self c.args.id c.in_ok-record.field-0.now (search rules) (search rules) (search rules)
      (search rules);
}
