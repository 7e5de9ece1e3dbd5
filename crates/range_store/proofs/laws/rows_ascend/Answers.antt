use Rattle.range_store.proofs.RowLaws.{rows_of-ascend}
use Rattle.range_store.proofs.laws.rows_ascend.Goals as goal

pub returns : goal.returns
returns c = rows_of-ascend
