-- Renewed ranges: a range that was closed, and opened again with the versions held.
use Rattle.std.specs.Prelude.{◌≡◌, ℕ, zero, suc, ◌<◌, ◌≤◌, ◌⊎◌, nat_eq, List, [], ◌∷◌, ◌++◌, length, vec_len, Some, None, if◌then◌else◌}
use Rattle.vclock.specs.declared.refusal.Refusal.{Refusal}
use Rattle.vclock.specs.declared.refusal.Refusal.TheVariants.{Unsettled, Stranger, NoMemory}
use Rattle.range_journal.specs.declared.journal.Entry.{Entry}
use Rattle.range_state.specs.State.{State}
use Rattle.range_state.specs.Renewals.{renewed_by}
use Rattle.range_store.specs.Renewals.{renew_fault}
use Rattle.caller_pass.specs.declared.book.ReturnedPass.{ReturnedPass}
use Rattle.caller_pass.specs.Passes.{PassView, new_pass}
use Rattle.caller_pass.specs.Locks.{Locked}
use Rattle.caller_pass.specs.Closings.{AllThere, SomeIsMissing, IsUnclosed}

-- the pass of a seat of a renewed range: the carrier's has the carried entries as receipts, and has seen them all
abbrev pub carried_pass : ℕ → List Entry → ℕ → PassView
carried_pass carrier entries seat = if nat_eq seat carrier then record { seat = seat; seen = length entries; share = length entries; receipts = entries; readings = [] } else new_pass seat

-- the passes of the seats 0 to n - 1 of a renewed range, in order
abbrev pub carried_passes : ℕ → List Entry → ℕ → List PassView
carried_passes carrier entries zero = []
carried_passes carrier entries (suc n) = carried_passes carrier entries n ++ carried_pass carrier entries n ∷ []

-- a range and its book that begin with the versions that another one holds
abbrev pub renewed_in : Locked → ℕ → ℕ → Locked
renewed_in l seat limit = record { state = renewed_by l.state seat limit; book = record { number = length (renewed_by l.state seat limit).store.entries; seats = l.book.seats; passes = [] } }

-- a returned pass, with its share, which is the number of its receipts
abbrev pub pass_of : ReturnedPass → PassView
pass_of p = record { seat = p.seat; seen = p.seen; share = vec_len p.receipts; receipts = p.receipts.items; readings = p.readings.items }

-- The refusal of a renewal, the first in order: a seat has no pass, or the range has no such seat; the fault of the
-- limit; a pass and the journal differ. A journal is replayed in memory for the readings, so NoMemory may replace a
-- difference.
abbrev pub IsUnrenewed : ℕ → State → ℕ → ℕ → List PassView → Refusal → Type 0
IsUnrenewed seats s seat limit passes Stranger = SomeIsMissing seats passes ⊎ (seats ≤ seat)
IsUnrenewed seats s seat limit passes (Unsettled at part place) = (seat < seats) × (renew_fault s.store limit ≡ None) × IsUnclosed seats s.store.entries passes (Unsettled at part place)
IsUnrenewed seats s seat limit passes NoMemory = (seat < seats) × AllThere seats passes × (renew_fault s.store limit ≡ None)
IsUnrenewed seats s seat limit passes e = (seat < seats) × AllThere seats passes × (renew_fault s.store limit ≡ Some e)
