use Rattle.std.proofs.Common.{◌≡◌, take}
use Rattle.range_journal.specs.Counters.{top_counter}
use Rattle.range_journal.proofs.journal.top_of.Given as goal

abbrev pub invariant-loop-entry : goal.invariant-loop-entry
invariant-loop-entry l = l.top ≡ top_counter (take l.entry-index l.entries) l.key l.node
