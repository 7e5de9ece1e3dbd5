-- The size of a journal, in bytes.
use Rattle.std.specs.Prelude.{ℕ, List}
use Rattle.std.specs.List.{sum_by}
use Rattle.version_set.specs.Sizes.{payload_len}
use Rattle.range_journal.specs.declared.journal.Entry.{Entry}

-- the bytes of an entry: its key, and its version's value and clock
abbrev pub entry_len : Entry → ℕ
entry_len e = payload_len e.key e.version

-- the bytes of entries
abbrev pub entries_len : List Entry → ℕ
entries_len es = sum_by entry_len es
