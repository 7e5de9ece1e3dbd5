-- Replays of journals.
use Rattle.std.specs.Prelude.{ℕ, ◌≤◌, List, [], length, bytes_eq, unwrap_or}
use Rattle.std.specs.HashMap.{HashMap, get_by}
use Rattle.version_set.specs.declared.version.Version.{Version}
use Rattle.range_journal.specs.declared.journal.Entry.{Entry}
use Rattle.range_journal.specs.Journal.{NeverCrowded}

-- entries, and the number of those that are replayed
pub record Replayed : Type 0 where
  pub entries : List Entry
  pub front : ℕ

-- no key ever held over 64 versions, and at most all entries are replayed
pub record IsReplay (r : Replayed) : Type 0 where
  pub short : (key : List ℕ) → NeverCrowded r.entries key
  pub within : r.front ≤ length r.entries

-- the set that a map by key has for a key, or an empty one: `bytes` gives the key of each key of the map
abbrev pub set_at : {K S : Type 0} → (K → List ℕ) → HashMap K (List Version) S → List ℕ → List Version
set_at bytes sets key = unwrap_or (get_by (λ k. bytes_eq key (bytes k)) sets) []
