use Rattle.range_journal.proofs.JournalLaws.{held-push}
use Rattle.range_journal.proofs.laws.held_versions_grow_by_an_offer.Goals as goal

pub returns : goal.returns
returns c entries entry key = held-push entries entry key
