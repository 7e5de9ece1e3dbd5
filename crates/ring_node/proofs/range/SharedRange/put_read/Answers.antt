use Rattle.std.proofs.Common.{rules}
use Rattle.range_store.specs.declared.context_test.ContextTest.TheVariants.{Read}
use Rattle.ring_node.proofs.TellLaws.{put_tells}
use Rattle.ring_node.proofs.range.SharedRange.put_read.Goals as goal

pub returns-clause-receipt : goal.returns-clause-receipt
returns-clause-receipt g c =
    (put_tells Read c.deref_mut.result.now c.put_hashed.new.self c.args.pass.now c.put_hashed.new.pass c.args.self.now c.args.key.now
    c.args.context.now c.args.kind c.args.value c.put_hashed.result (search rules) (search rules)).receipt

pub returns-clause-kept : goal.returns-clause-kept
returns-clause-kept g c =
    (put_tells Read c.deref_mut.result.now c.put_hashed.new.self c.args.pass.now c.put_hashed.new.pass c.args.self.now c.args.key.now
    c.args.context.now c.args.kind c.args.value c.put_hashed.result (search rules) (search rules)).kept

pub returns-clause-refusal : goal.returns-clause-refusal
returns-clause-refusal g c =
    (put_tells Read c.deref_mut.result.now c.put_hashed.new.self c.args.pass.now c.put_hashed.new.pass c.args.self.now c.args.key.now
    c.args.context.now c.args.kind c.args.value c.put_hashed.result (search rules) (search rules)).refusal
