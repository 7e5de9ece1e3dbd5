use Rattle.range_store.proofs.RowLaws.{rows_of-entries}
use Rattle.range_store.proofs.laws.rows_are_of_the_entries.Goals as goal

pub returns : goal.returns
returns c = rows_of-entries
