use Rattle.caller_pass.proofs.CallerLaws.{never_back}
use Rattle.caller_pass.proofs.laws.readings_never_go_back.Goals as goal

pub returns : goal.returns
returns c = never_back
