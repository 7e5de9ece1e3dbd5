-- Journals, and the versions of keys in them: a put adds a new version, as in section 4.4 of the Dynamo paper.
use Rattle.std.specs.Prelude.{◌≡◌, ℕ, ◌+◌, ◌-◌, false, List, [], ◌∷◌, ◌++◌, length, take, ◌≤◌, nat_lt, nat_eq, max, if◌then◌else◌}
use Rattle.std.specs.Cmp.Lexicographic.{pointwise}
use Rattle.vclock.specs.declared.refusal.Refusal.TheVariants.{JournalFull}
use Rattle.version_set.specs.declared.version.Version.{Version}
use Rattle.version_set.specs.Version.{covered, maximal, set_from}
use Rattle.range_journal.specs.declared.journal.Entry.{Entry}
use Rattle.range_journal.specs.declared.journal.Source.{Source}
use Rattle.vclock.specs.Outcome.{Outcome, gives, refuses}
use Rattle.range_journal.specs.Log.{Log}

-- the journal with an entry at its end
abbrev pub with_entry : Log → Entry → Log
with_entry log e = record { entries = log.entries ++ e ∷ []; limit = log.limit; room = log.room - 1 }

-- the journal with entries at its end
abbrev pub with_entries : Log → List Entry → Log
with_entries log es = record { entries = log.entries ++ es; limit = log.limit; room = log.room - length es }

-- capacity for k more entries, within the limit
abbrev pub reserve : Log → ℕ → Outcome (Unit {0}) Log
reserve log k = if nat_lt log.limit (length log.entries + k) then refuses JournalFull else gives tt (record log { room = max log.room k })

-- the next number, and the journal with an entry of that number
abbrev pub append : Log → ℕ → Source → List ℕ → Version → Outcome ℕ Log
append log seat source key version =
    if nat_lt (length log.entries) log.limit then gives (length log.entries) (with_entry log (record { number = length log.entries; seat = seat; source = source; key = key; version = version })) else refuses JournalFull

-- the versions that the entries have for a key, in order
abbrev pub versions_of : List Entry → List ℕ → List Version
versions_of [] key = []
versions_of (e ∷ es) key = if pointwise nat_eq e.key key then e.version ∷ versions_of es key else versions_of es key

-- the set of the versions accepted for a key
abbrev pub accepted : List Entry → List ℕ → List Version
accepted es key = set_from [] (versions_of es key)

-- the versions that are held for a key
abbrev pub held : List Entry → List ℕ → List Version
held es key = maximal (accepted es key)

-- no first part of the entries holds more than 64 versions for a key
abbrev pub NeverCrowded : List Entry → List ℕ → Type 0
NeverCrowded es key = (n : ℕ) → length (held (take n es) key) ≤ 64

-- no version of the entries is covered by those that the entries before it have for its key
abbrev pub AreNewsAfter : List Entry → List Entry → Type 0
AreNewsAfter before [] = Unit {0}
AreNewsAfter before (e ∷ es) = (covered e.version (versions_of before e.key) ≡ false) × AreNewsAfter (before ++ e ∷ []) es

abbrev pub AreNews : List Entry → Type 0
AreNews es = AreNewsAfter [] es
