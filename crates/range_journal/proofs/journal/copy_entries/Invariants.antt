use Rattle.std.proofs.Common.{◌≡◌, ◌≤◌, length, take}
use Rattle.std.specs.Vec.{vec_capacity}
use Rattle.range_journal.proofs.journal.copy_entries.Given as goal

abbrev pub invariant-loop-entry : goal.invariant-loop-entry
invariant-loop-entry l = record {
  copied : l.copies.items ≡ take l.entry-index l.entries;
  room : length l.entries ≤ vec_capacity l.copies;
}
