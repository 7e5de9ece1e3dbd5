-- Entries of the journal, for C.
use Rattle.std.specs.Prelude.{ℕ, List, Option, option_map}
use Rattle.version_set.specs.declared.version.Version.{Version}
use Rattle.range_journal.specs.declared.journal.Entry.{Entry}
use Rattle.range_journal.specs.declared.journal.Source.{Source}
use Rattle.range_journal.specs.declared.journal.Source.TheVariants.{Client, Copy, Hint, Partner}

-- the key of an entry, if any
abbrev pub key_in : Option Entry → Option (List ℕ)
key_in e = option_map (λ (x : Entry). x.key) e

-- the version of an entry, if any
abbrev pub version_in : Option Entry → Option Version
version_in e = option_map (λ (x : Entry). x.version) e

-- the number of a source
abbrev pub number_of_source : Source → ℕ
number_of_source Client = 0
number_of_source Copy = 1
number_of_source Hint = 2
number_of_source Partner = 3

-- the number of an entry's source, if any
abbrev pub source_in : Option Entry → Option ℕ
source_in e = option_map (λ (x : Entry). number_of_source x.source) e
