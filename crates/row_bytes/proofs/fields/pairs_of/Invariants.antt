use Rattle.std.proofs.Common.{◌≡◌, ◌-◌, []}
use Rattle.row_bytes.specs.Reading.{pairs_at}
use Rattle.row_bytes.proofs.fields.pairs_of.Given as goal

abbrev pub invariant-pairs : goal.invariant-pairs
invariant-pairs l = pairs_at (l.count - l.counter) l.above l.pairs.items l.rest ≡ pairs_at l.count 0 [] l.bytes
