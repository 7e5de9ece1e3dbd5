use Rattle.std.proofs.Common.{arith}
use Rattle.row_bytes.proofs.RowLaws.{key_takes}
use Rattle.row_bytes.proofs.reader.key_at.Goals as goal

pub returns-in-Ok-slice_of-clause-found : goal.returns-in-Ok-slice_of-clause-found
returns-in-Ok-slice_of-clause-found c = (
  c.in-Ok-slice_of.field-0-1.now,
  key_takes c.args.text.now (c.in-Ok.len, c.in-Ok.rest.now)
      (c.in-Ok-slice_of.key.now, c.in-Ok-slice_of.field-0-1.now) (λ i. omega (arith, c.type_inv.text i)) c.in-Ok.ensures c.in-Ok-slice_of.ensures,
)
