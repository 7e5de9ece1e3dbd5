-- Replays of journals.
use Rattle.std.specs.Prelude.{ℕ, ◌≤◌, List, length, take, IsTrue}
use Rattle.std.specs.List.{AllByRecursion}
use Rattle.range_journal.specs.Journal.{NeverCrowded}
use Rattle.range_journal.specs.declared.journal.Entry.{Entry}
use Rattle.range_store.specs.Config.{Config, is_config}
use Rattle.range_store.specs.Rows.{rows_of}
use Rattle.range_store.specs.Store.{IsOwn}
use Rattle.range_tree.specs.Trees.{RangeTree, all_dirty}

-- the entries of a range, and the number of those that are replayed
pub record Replayed : Type 0 where
  pub config : Config
  pub entries : List Entry
  pub front : ℕ

-- the configuration is valid, the entries belong to the range, no key ever held over 64 versions, and at most all
-- entries are replayed
pub record IsReplay (r : Replayed) : Type 0 where
  pub config : IsTrue (is_config r.config)
  pub own : AllByRecursion (IsOwn r.config) r.entries
  pub short : (key : List ℕ) → NeverCrowded r.entries key
  pub within : r.front ≤ length r.entries

-- the tree of the rows that the replayed entries make: no node is clean
abbrev pub replayed_tree : Replayed → RangeTree
replayed_tree r = record { map = record { format = r.config.format; bits = r.config.bits; range = r.config.range; rows = rows_of (take r.front r.entries) }; marks = all_dirty r.config.format }
