use Rattle.range_journal.specs.declared.journal.Source.TheVariants.{Hint}
use Rattle.ring_node.proofs.GainLaws.{gains_taken}
use Rattle.ring_node.proofs.delivery.send.Goals as goal

pub returns-in-Ok-Taken-clause-gains : goal.returns-in-Ok-Taken-clause-gains
returns-in-Ok-Taken-clause-gains g c =
    gains_taken c.args.pass.now c.copy.new.pass Hint c.args.key.now c.args.version c.in-Ok-Taken.field-0 c.in-Ok-Taken.field-0-0
    c.in-Ok-Taken.field-0-is c.in-Ok-Taken.ensures.reply
