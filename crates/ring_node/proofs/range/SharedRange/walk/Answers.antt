use Rattle.std.proofs.Common.{rules}
use Rattle.range_journal.specs.declared.journal.Source.TheVariants.{Partner}
use Rattle.ring_node.proofs.GainLaws.{some_more}
use Rattle.ring_node.proofs.range.SharedRange.walk.Goals as goal

pub returns-in_err-more-clause-some : goal.returns-in_err-more-clause-some
returns-in_err-more-clause-some g c =
    some_more c.args.pass.now c.loop.pass c.take_answer-answered.new.pass Partner c.loop.invariant.gains c.take_answer-answered.ensures.some

pub returns-in_default-3-clause-some : goal.returns-in_default-3-clause-some
returns-in_default-3-clause-some g c =
    some_more c.args.pass.now c.loop.pass c.take_answer-answered.new.pass Partner c.loop.invariant.gains c.take_answer-answered.ensures.some

pub loop-preserved : goal.loop-preserved
loop-preserved g c = record {
  gains = some_more c.args.pass.now c.loop.pass c.take_answer-answered.new.pass Partner c.loop.invariant.gains c.take_answer-answered.ensures.some;
  link = search rules;
  bad = search rules;
}
