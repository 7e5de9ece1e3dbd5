use Rattle.c_calls.proofs.HintNumberLaws.{goes_on, one_hint, kept_hint, stays_below}
use Rattle.c_calls.proofs.laws.no_number_names_two_hints.Goals as goal

pub returns-clause-goes_on : goal.returns-clause-goes_on
returns-clause-goes_on c carrier steps = goes_on carrier steps

pub returns-clause-one : goal.returns-clause-one
returns-clause-one c carrier steps n h later was is = one_hint carrier steps n h later was is

pub returns-clause-kept : goal.returns-clause-kept
returns-clause-kept c old new n owner key clock kind value is = kept_hint old new n owner key clock kind value is

pub returns-clause-below : goal.returns-clause-below
returns-clause-below c carrier steps is_below = stays_below carrier steps is_below
