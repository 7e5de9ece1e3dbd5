-- Loading rows for a pass.
use Rattle.std.specs.Prelude.{ℕ, List, length, drop}
use Rattle.vclock.specs.Outcome.{Outcome, gives, ◌>>=◌}
use Rattle.row_bytes.specs.declared.row.Row.{Row}
use Rattle.range_store.specs.declared.store.loading.Loaded.{Loaded}
use Rattle.range_state.specs.Loads.{load, load_text}
use Rattle.range_state.specs.State.{State}
use Rattle.caller_pass.specs.Locks.{Locked, recorded}
use Rattle.caller_pass.specs.Passes.{PassView}

-- range and pass after a load: the pass gets the receipts of the new entries
abbrev pub after_load : Locked → PassView → State → Locked × PassView
after_load l p s = recorded l p s (drop (length l.state.store.entries) s.store.entries)

-- rows of one leaf, loaded for the pass
abbrev pub load_in : Locked → PassView → List Row → Outcome Loaded (Locked × PassView)
load_in l p rows = do
  one ← load l.state p.seat rows
  gives one.0 (after_load l p one.1)

-- the rows that a text spells, loaded for the pass
abbrev pub load_text_in : Locked → PassView → List ℕ → Outcome Loaded (Locked × PassView)
load_text_in l p text = do
  one ← load_text l.state p.seat text
  gives one.0 (after_load l p one.1)
