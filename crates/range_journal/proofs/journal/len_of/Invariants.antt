use Rattle.std.proofs.Common.{◌≡◌, ◌-◌, ◌^◌, take}
use Rattle.std.specs.Prelude.{min}
use Rattle.range_journal.specs.Sizes.{entries_len}
use Rattle.range_journal.proofs.journal.len_of.Given as goal

abbrev pub invariant-loop-entry : goal.invariant-loop-entry
invariant-loop-entry l = l.len ≡ min (entries_len (take l.entry-index l.entries)) (2 ^ 64 - 1)
