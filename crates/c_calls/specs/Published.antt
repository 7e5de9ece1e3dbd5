-- Snapshots that are published, for C: their rows, and the number of entries that made these.
use Rattle.std.specs.Prelude.{ℕ, ◌+◌}
use Rattle.snapshot.specs.RowMaps.{RowMap}
use Rattle.range_state.specs.Moments.{front_of, shown_rows}
use Rattle.range_state.specs.declared.local_rows.LocalRows.{LocalRows}
use Rattle.range_state.specs.declared.local_rows.LocalRows.TheVariants as local_rows
use Rattle.c_calls.specs.Kept.{KeptState, entries_in}

-- the rows, and the number of entries that made them, with those before the journal's first one
pub record Shown : Type 0 where
  pub rows : RowMap
  pub entries : ℕ

-- the number of entries that made the current rows, or the moment's rows
abbrev pub shown_entries : LocalRows → KeptState → ℕ
shown_entries local_rows.Now k = entries_in k
shown_entries local_rows.Moment k = k.first + front_of k.state.moment

abbrev pub shown_by : LocalRows → KeptState → Shown
shown_by local k = record { rows = shown_rows local k.state; entries = shown_entries local k }
