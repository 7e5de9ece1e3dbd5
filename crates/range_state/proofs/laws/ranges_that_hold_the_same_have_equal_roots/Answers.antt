use Rattle.range_state.proofs.QuietLaws.{same_rows_now, same_roots}
use Rattle.range_state.proofs.laws.ranges_that_hold_the_same_have_equal_roots.Goals as goal

pub returns : goal.returns
returns c = record { rows = same_rows_now; roots = same_roots }
