use Rattle.range_journal.proofs.JournalLaws.{covered-held}
use Rattle.range_journal.proofs.laws.held_versions_cover_the_accepted.Goals as goal

pub returns : goal.returns
returns c entries key version = covered-held version entries key
