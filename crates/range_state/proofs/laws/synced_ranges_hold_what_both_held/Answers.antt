use Rattle.range_state.proofs.QuietLaws.{pair_of, first_holds, second_holds}
use Rattle.range_state.proofs.laws.synced_ranges_hold_what_both_held.Goals as goal

pub returns : goal.returns
returns c = record {
  first = λ a b seat ok_a ok_b here distinct. first_holds a b seat (pair_of a b ok_a ok_b here distinct);
  second = λ a b seat ok_a ok_b here distinct. second_holds a b seat (pair_of a b ok_a ok_b here distinct);
}
