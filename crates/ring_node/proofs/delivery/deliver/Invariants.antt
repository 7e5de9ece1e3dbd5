use Rattle.std.proofs.Common.{◌+◌, ◌≤◌}
use Rattle.range_journal.specs.declared.journal.Source.TheVariants.{Hint}
use Rattle.ring_node.specs.Gains.{Gains}
use Rattle.ring_node.proofs.delivery.deliver.Given as goal

abbrev pub invariant-loop : goal.invariant-loop
invariant-loop g l = record {
  gains : Gains l.fn.pass l.pass Hint l.report.delivered;
  turns : l.report.delivered + l.report.known + l.report.kept ≤ l.counter;
}
