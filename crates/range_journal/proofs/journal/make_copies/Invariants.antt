use Rattle.std.proofs.Common.{◌≡◌, ◌++◌, map, take, drop}
use Rattle.std.specs.Vec.{vec_capacity}
use Rattle.range_journal.specs.Copies.{as_copy}
use Rattle.range_journal.proofs.journal.make_copies.Given as goal

abbrev pub invariant-loop-at : goal.invariant-loop-at
invariant-loop-at l = (l.entries.items ≡ map as_copy (take l.at l.initial.entries.items) ++ drop l.at l.initial.entries.items)
    × (vec_capacity l.entries ≡ vec_capacity l.initial.entries)
