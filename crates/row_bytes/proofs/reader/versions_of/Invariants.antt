use Rattle.std.proofs.Common.{◌≡◌, ◌-◌, []}
use Rattle.row_bytes.specs.Reading.{versions_at}
use Rattle.row_bytes.proofs.reader.versions_of.Given as goal

abbrev pub invariant-versions : goal.invariant-versions
invariant-versions l = versions_at l.format (l.count - l.counter) l.last l.versions.items l.rest ≡ versions_at l.format l.count [] [] l.bytes
