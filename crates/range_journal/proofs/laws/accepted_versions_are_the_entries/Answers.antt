use Rattle.range_journal.proofs.JournalLaws.{accepted-entries}
use Rattle.range_journal.proofs.laws.accepted_versions_are_the_entries.Goals as goal

pub returns : goal.returns
returns c entries key version = accepted-entries entries key version
