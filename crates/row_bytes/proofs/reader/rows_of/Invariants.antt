use Rattle.std.proofs.Common.{length, []}
use Rattle.row_bytes.specs.Reading.{rows_at}
use Rattle.row_bytes.proofs.Heads.{HasBegun}
use Rattle.row_bytes.proofs.ManyRowLaws.{IsOnTheWay}
use Rattle.row_bytes.proofs.reader.rows_of.Given as goal

abbrev pub invariant-rows : goal.invariant-rows
invariant-rows l = record {
  way : IsOnTheWay l.format l.rows.items l.rest (rows_at l.format (length l.text) [] [] l.text);
  begun : HasBegun l.text l.rest;
}

abbrev pub decreases-rows : goal.decreases-rows
decreases-rows l = length l.rest
