-- A journal as a value.
use Rattle.std.specs.Prelude.{◌≡◌, ℕ, ◌+◌, ◌<◌, ◌≤◌, ◌^◌, List, [], ◌∷◌, length}
use Rattle.range_journal.specs.declared.journal.Entry.{Entry}

-- the entries, the maximum number of entries, and the number of entries that can be added without allocating
pub record Log : Type 0 where
  pub entries : List Entry
  pub limit : ℕ
  pub room : ℕ

-- the entries have the numbers from n on, in order
abbrev pub AreNumberedFrom : ℕ → List Entry → Type 0
AreNumberedFrom n [] = Unit {0}
AreNumberedFrom n (e ∷ es) = (e.number ≡ n) × AreNumberedFrom (n + 1) es

-- the entries are numbered from 0, and with the spare capacity they are within the limit
pub record IsLog (log : Log) : Type 0 where
  pub numbered : AreNumberedFrom 0 log.entries
  pub within : length log.entries + log.room ≤ log.limit
  pub small : log.limit < 2 ^ 64
