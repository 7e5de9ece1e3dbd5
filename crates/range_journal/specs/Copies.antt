-- Entries reported as copies: a range reports a partner's version as a copy once it has no record of the session that
-- accepted it.
use Rattle.std.specs.Prelude.{◌≡◌, ℕ, List, map, take, ◌≤◌, length}
use Rattle.std.specs.List.{AllByRecursion}
use Rattle.range_journal.specs.declared.journal.Entry.{Entry}
use Rattle.range_journal.specs.declared.journal.Source.{Source}
use Rattle.range_journal.specs.declared.journal.Source.TheVariants.{Client, Copy, Hint, Partner}
use Rattle.range_journal.specs.Log.{Log}

-- the source that is reported in place of a source
abbrev pub copy_for : Source → Source
copy_for Client = Client
copy_for Copy = Copy
copy_for Hint = Hint
copy_for Partner = Copy

-- an entry that is a copy if it was a partner's
abbrev pub as_copy : Entry → Entry
as_copy e = record e { source = copy_for e.source }

abbrev pub as_copies : List Entry → List Entry
as_copies es = map as_copy es

-- none of the entries is a partner's
abbrev pub NoneIsPartners : List Entry → Type 0
NoneIsPartners es = AllByRecursion (λ (e : Entry). ¬ (e.source ≡ Partner)) es

-- none of the first n entries is a partner's
pub record IsSettled (n : ℕ) (es : List Entry) : Type 0 where
  pub within : n ≤ length es
  pub others : NoneIsPartners (take n es)

-- the journal with each partner's entry as a copy
abbrev pub with_copies : Log → Log
with_copies log = record log { entries = as_copies log.entries }
