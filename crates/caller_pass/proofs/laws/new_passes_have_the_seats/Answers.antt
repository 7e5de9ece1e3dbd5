use Rattle.caller_pass.proofs.CallerLaws.{passes_of_seats}
use Rattle.caller_pass.proofs.laws.new_passes_have_the_seats.Goals as goal

pub returns : goal.returns
returns c = passes_of_seats
