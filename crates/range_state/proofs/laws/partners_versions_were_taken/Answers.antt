use Rattle.range_state.proofs.SessionResults.{from_partner}
use Rattle.range_state.proofs.laws.partners_versions_were_taken.Goals as goal

pub returns : goal.returns
returns c = from_partner
