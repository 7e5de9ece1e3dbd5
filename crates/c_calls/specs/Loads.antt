-- Loads from C.
use Rattle.std.specs.Prelude.{◌≡◌, ℕ, List, Option, Some, None, Result, Ok, Err}
use Rattle.vclock.specs.Outcome.{Outcome, refuses}
use Rattle.vclock.specs.declared.format.Format.{Format}
use Rattle.vclock.specs.declared.refusal.Refusal.{Refusal}
use Rattle.vclock.specs.declared.refusal.Refusal.TheVariants.{BadRing, RowBroken}
use Rattle.range_store.specs.FormatLoads.{newer_fault}
use Rattle.range_state.specs.Loads.{load_format}
use Rattle.range_state.specs.State.{State}
use Rattle.range_store.specs.declared.store.loading.Loaded.{Loaded}
use Rattle.c_calls.specs.declared.loads.LoadReceipt.{LoadReceipt}

-- the rows of a text are loaded by seat 0, if a format has the number
abbrev pub load_numbered : State → Option Format → List ℕ → Outcome Loaded State
load_numbered s None text = refuses BadRing
load_numbered s (Some format) text = load_format s 0 format text

-- the fault of a format's number, which is found without the rows: no format has it, or it is newer than the replica's
abbrev pub numbered_fault : State → Option Format → Option Refusal
numbered_fault s None = Some BadRing
numbered_fault s (Some format) = newer_fault s.store.config.format format

-- the caller gets the counts of a load, or the offset of a broken field; any other refusal changes nothing
abbrev pub TellsLoaded : Result Loaded Refusal → LoadReceipt → LoadReceipt → Type 0
TellsLoaded (Ok a) old new = new ≡ record { taken = a.taken; known = a.known; offset = 0 }
TellsLoaded (Err (RowBroken offset)) old new = new ≡ record old { offset = offset }
TellsLoaded (Err e) old new = new ≡ old
