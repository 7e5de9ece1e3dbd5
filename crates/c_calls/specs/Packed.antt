-- Packed entries, for C: the concatenated texts of many entries.
use Rattle.std.specs.Prelude.{◌≡◌, ℕ, ◌+◌, ◌-◌, ◌==◌, nat_le, nat_lt, Bool, not, ◌&&◌, ◌||◌, List, [], ◌∷◌, ◌++◌, length, drop, Option, Some, None, if◌then◌else◌, MatchBool}
use Rattle.std.specs.List.{flat_map, splice}
use Rattle.vclock.specs.Bytes.{key_fault}
use Rattle.vclock.specs.declared.format.Format.{Format}
use Rattle.version_set.specs.Kind.{value_fault}
use Rattle.range_journal.specs.declared.journal.Entry.{Entry}
use Rattle.row_bytes.specs.Rows.{row_text}
use Rattle.c_calls.specs.Entries.{number_of_source}
use Rattle.c_calls.specs.Hands.{HandsNothing}
use Rattle.c_calls.specs.Kept.{KeptState, entries_in}
use Rattle.c_calls.specs.Numbers.{SMALL, BAD_POSITION}

-- the text of an entry: its source in one byte, and the text of a row of its key and its one version
abbrev pub entry_text : Format → Entry → List ℕ
entry_text format e = number_of_source e.source ∷ row_text format (record { key = e.key; versions = e.version ∷ [] })

-- the concatenated texts of entries
abbrev pub entries_text : Format → List Entry → List ℕ
entries_text format es = flat_map (entry_text format) es

-- the longest prefix of a list of entries whose texts have at most that many bytes together
abbrev pub fitting : Format → ℕ → List Entry → List Entry
fitting format room [] = []
fitting format room (e ∷ es) =
    if nat_le (length (entry_text format e)) room then e ∷ fitting format (room - length (entry_text format e)) es else []

-- the length of the text of the first entry, if it is over that many bytes
abbrev pub first_over : Format → ℕ → List Entry → Option ℕ
first_over format room [] = None
first_over format room (e ∷ es) = if nat_le (length (entry_text format e)) room then None else Some (length (entry_text format e))

-- an entry within the limits of a format: it has a text
pub record IsWithin (format : Format) (e : Entry) : Type 0 where
  pub key : key_fault e.key ≡ None
  pub value : value_fault format e.version.kind e.version.value ≡ None

-- Texts take the front of a buffer, and their length and the number after their last entry are stored. If the first one
-- does not fit, only its length is stored. Before and after are the stored length and the buffer.
abbrev pub PacksUnless : Option ℕ → List ℕ → ℕ → ℕ → ℕ → ℕ → ℕ × List ℕ → ℕ × List ℕ → Type 0
PacksUnless (Some len) text end code next next' before after = (code ≡ SMALL) × (after.0 ≡ len) × (after.1 ≡ before.1) × (next' ≡ next)
PacksUnless None text end code next next' before after =
    (code ≡ 0) × (after.0 ≡ length text) × (after.1 ≡ text ++ drop (length text) before.1) × (next' ≡ end)

-- the entries that fit are packed, from a number on
abbrev pub Packs : Format → List Entry → ℕ → ℕ → ℕ → ℕ → ℕ × List ℕ → ℕ × List ℕ → Type 0
Packs format es from code next next' before after =
    PacksUnless (first_over format (length before.1) es) (entries_text format (fitting format (length before.1) es))
    (from + length (fitting format (length before.1) es)) code next next' before after

-- the entries from a number on
abbrev pub entries_from : KeptState → ℕ → List Entry
entries_from k from = drop (from - k.first) k.state.store.entries

-- A number is not a position if it is over the number of entries. A number below the last renewal's is not one either,
-- since a version that was carried over is not the entry that had its number before. The exception is the journal's
-- first number: all versions follow it.
abbrev pub is_no_position : KeptState → ℕ → Bool
is_no_position k from = nat_lt (entries_in k) from || (nat_lt from k.renewed && not (from == k.first))

-- the entries from a position on are packed
abbrev pub PacksFrom : KeptState → ℕ → ℕ → ℕ → ℕ → ℕ × List ℕ → ℕ × List ℕ → Type 0
PacksFrom k from code next next' before after = MatchBool (is_no_position k from)
    ((code ≡ BAD_POSITION) × (next' ≡ next) × HandsNothing before after)
    (Packs k.state.store.config.format (entries_from k from) from code next next' before after)

-- `bytes` replace the bytes of a buffer from `at` on, and end at `end`
pub record IsWritten (bytes old : List ℕ) (at : ℕ) (new : List ℕ) (end : ℕ) : Type 0 where
  pub ends : end ≡ at + length bytes
  pub is : new ≡ splice old at end bytes
