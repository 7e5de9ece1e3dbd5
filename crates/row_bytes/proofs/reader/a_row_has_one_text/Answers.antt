use Rattle.row_bytes.proofs.RowLaws.{one_row}
use Rattle.row_bytes.proofs.reader.a_row_has_one_text.Goals as goal

pub returns : goal.returns
returns c = one_row
