use Rattle.range_state.proofs.CaughtUpLaws.{begins_now, begins_so, caught_holds, caught_new, caught_number}
use Rattle.range_state.proofs.laws.a_range_that_caught_up_holds_the_same.Goals as goal

pub returns : goal.returns
returns c = record {
  begins = begins_now;
  stays = begins_so;
  held = caught_holds;
  news = caught_new;
  numbers = caught_number;
}
