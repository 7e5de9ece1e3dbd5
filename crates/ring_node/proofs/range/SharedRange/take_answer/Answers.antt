use Rattle.std.proofs.Common.{rules, Ok, Err}
use Rattle.ring_node.proofs.WalkLaws.{text_tells}
use Rattle.ring_node.proofs.range.SharedRange.take_answer.Goals as goal

pub returns-in-Ok-clause-gains : goal.returns-in-Ok-clause-gains
returns-in-Ok-clause-gains g c =
    (text_tells c.deref_mut.result.now c.take_answer_next.new.self c.args.pass.now c.take_answer_next.new.pass c.args.id
    (record { node = c.args.answer.node; text = c.hash-text.result }) (Ok c.in-Ok.taken) (search rules)).gains

pub returns-in-Ok-clause-some : goal.returns-in-Ok-clause-some
returns-in-Ok-clause-some g c =
    (text_tells c.deref_mut.result.now c.take_answer_next.new.self c.args.pass.now c.take_answer_next.new.pass c.args.id
    (record { node = c.args.answer.node; text = c.hash-text.result }) (Ok c.in-Ok.taken) (search rules)).some

pub returns-clause-some : goal.returns-clause-some
returns-clause-some g c =
    (text_tells c.deref_mut.result.now c.take_answer_next.new.self c.args.pass.now c.take_answer_next.new.pass c.args.id
    (record { node = c.args.answer.node; text = c.hash-text.result }) (Err c.in-Err.refusal) (search rules)).some

pub returns-clause-refusal : goal.returns-clause-refusal
returns-clause-refusal g c =
    (text_tells c.deref_mut.result.now c.take_answer_next.new.self c.args.pass.now c.take_answer_next.new.pass c.args.id
    (record { node = c.args.answer.node; text = c.hash-text.result }) (Err c.in-Err.refusal) (search rules)).refusal
