use Rattle.std.proofs.Common.{[]}
use Rattle.range_journal.proofs.CounterLaws.{top-all, top-held, top-later}
use Rattle.range_journal.proofs.laws.counters_never_go_back.Goals as goal

pub returns-clause-all : goal.returns-clause-all
returns-clause-all c entries node = top-all [] entries node

pub returns-clause-held : goal.returns-clause-held
returns-clause-held c entries key node = top-held entries key node

pub returns-clause-later : goal.returns-clause-later
returns-clause-later c entries more key node = top-later entries more key node
