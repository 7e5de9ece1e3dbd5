use Rattle.version_set.proofs.SetLaws.{covered-is}
use Rattle.version_set.proofs.laws.covered_versions_are_members_or_below_one.Goals as goal

pub returns : goal.returns
returns c v members clock clocks = covered-is v members clock clocks
