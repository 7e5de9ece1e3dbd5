use Rattle.std.proofs.Common.{◌≡◌, ◌≤◌}
use Rattle.range_journal.specs.declared.journal.Source.TheVariants.{Partner}
use Rattle.ring_node.specs.Gains.{GainsSome}
use Rattle.ring_node.proofs.range.SharedRange.walk.Given as goal

abbrev pub invariant-loop : goal.invariant-loop
invariant-loop g l = record {
  gains : GainsSome l.fn.pass l.pass Partner;
  link : g.K.Link.failed l.link ≡ g.K.Link.failed l.fn.link;
  bad : l.walk.bad ≤ l.counter;
}
