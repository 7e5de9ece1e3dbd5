use Rattle.row_bytes.proofs.RowSetLaws.{set_row, row_set, row_fits}
use Rattle.row_bytes.proofs.reader.a_held_set_is_a_row.Goals as goal

pub returns-clause-held : goal.returns-clause-held
returns-clause-held c = set_row

pub returns-clause-back : goal.returns-clause-back
returns-clause-back c = λ format r h. (row_set format r h, row_fits format r h)
