-- Loads of a range, which are loads of its store.
use Rattle.std.specs.Prelude.{ℕ, List}
use Rattle.vclock.specs.Outcome.{Outcome, through}
use Rattle.vclock.specs.declared.format.Format.{Format}
use Rattle.row_bytes.specs.declared.row.Row.{Row}
use Rattle.range_store.specs.declared.store.loading.Loaded.{Loaded}
use Rattle.range_store.specs.Loads as loads
use Rattle.range_store.specs.FormatLoads as formats
use Rattle.range_state.specs.State.{State, with_store}

-- the versions of rows of one leaf are accepted
abbrev pub load : State → ℕ → List Row → Outcome Loaded State
load s seat rows = through (with_store s) (loads.load s.store seat rows)

-- the rows that a text spells are loaded
abbrev pub load_text : State → ℕ → List ℕ → Outcome Loaded State
load_text s seat text = through (with_store s) (loads.load_text s.store seat text)

-- the rows that a text of a format spells are loaded
abbrev pub load_format : State → ℕ → Format → List ℕ → Outcome Loaded State
load_format s seat format text = through (with_store s) (formats.load_format s.store seat format text)
