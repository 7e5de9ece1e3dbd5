-- A store whose journal reports partners' versions as copies.
use Rattle.range_journal.specs.Copies.{as_copies}
use Rattle.range_store.specs.Store.{Store}

-- the store with each partner's entry as a copy
abbrev pub with_copies : Store → Store
with_copies s = record s { entries = as_copies s.entries }
