-- Reads of a key in a replica.
use Rattle.std.specs.Prelude.{ℕ, List, [], ◌∷◌}
use Rattle.vclock.specs.declared.format.Format.{Format}
use Rattle.version_set.specs.declared.version.Version.{Version}
use Rattle.range_journal.specs.Journal.{held}
use Rattle.row_bytes.specs.Rows.{row_text}
use Rattle.range_state.specs.State.{State}

-- the text of a key's row, or no bytes if it has no versions
abbrev pub row_of : Format → List ℕ → List Version → List ℕ
row_of format key [] = []
row_of format key (v ∷ vs) = row_text format (record { key = key; versions = v ∷ vs })

-- the text of the versions that are held for a key
abbrev pub row_shown : State → List ℕ → List ℕ
row_shown s key = row_of s.store.config.format key (held s.store.entries key)
