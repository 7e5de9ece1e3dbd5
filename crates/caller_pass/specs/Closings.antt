-- The close of a range: each pass against the journal.
use Rattle.std.specs.Prelude.{◌≡◌, ℕ, ◌<◌, ◌≤◌, List, length, take, filter, nat_eq, slice_get, All, Contains, Some}
use Rattle.vclock.specs.declared.refusal.Refusal.{Refusal}
use Rattle.vclock.specs.declared.refusal.Refusal.TheVariants.{Unsettled, Stranger, NoMemory}
use Rattle.vclock.specs.declared.refusal.PassPart.{PassPart}
use Rattle.vclock.specs.declared.refusal.PassPart.TheVariants as parts
use Rattle.range_journal.specs.declared.journal.Entry.{Entry}
use Rattle.range_journal.specs.Journal.{held}
use Rattle.caller_pass.specs.declared.reading.Reading.{Reading}
use Rattle.caller_pass.specs.Passes.{PassView}

-- the entries of a seat, in order
abbrev pub of_seat : ℕ → List Entry → List Entry
of_seat seat entries = filter (λ e. nat_eq e.seat seat) entries

-- a reading has the versions that the journal held for its key at its front
pub record IsTrueReading (entries : List Entry) (r : Reading) : Type 0 where
  pub within : r.front ≤ length entries
  pub versions : held (take r.front entries) r.key ≡ r.versions

-- the receipts of a pass are the entries of its seat, in order, and its readings are true
pub record IsSettled (entries : List Entry) (p : PassView) : Type 0 where
  pub receipts : p.receipts ≡ of_seat p.seat entries
  pub readings : All (IsTrueReading entries) p.readings

-- two lists differ at this place, and are equal before it
pub record DifferAt (xs ys : List Entry) (k : ℕ) : Type 0 where
  pub alike : take k xs ≡ take k ys
  pub differ : ¬ (slice_get xs k ≡ slice_get ys k)

-- the reading at this place is not true, and those before it are
pub record IsFalseAt (entries : List Entry) (rs : List Reading) (k : ℕ) : Type 0 where
  pub before : All (IsTrueReading entries) (take k rs)
  pub reading : Reading
  pub there : slice_get rs k ≡ Some reading
  pub not_true : ¬ IsTrueReading entries reading

-- the first place at which a pass and the journal differ: its receipts are compared before its readings
abbrev pub DiffersFirst : List Entry → PassView → PassPart → ℕ → Type 0
DiffersFirst entries p parts.Receipt k = DifferAt p.receipts (of_seat p.seat entries) k
DiffersFirst entries p parts.Reading k = (p.receipts ≡ of_seat p.seat entries) × IsFalseAt entries p.readings k

-- some pass has the seat
abbrev pub HasSeat : List PassView → ℕ → Type 0
HasSeat passes seat = (p : PassView) × Contains passes p × (p.seat ≡ seat)

-- each seat has a pass
abbrev pub AllThere : ℕ → List PassView → Type 0
AllThere seats passes = (seat : ℕ) → seat < seats → HasSeat passes seat

-- some seat has no pass
abbrev pub SomeIsMissing : ℕ → List PassView → Type 0
SomeIsMissing seats passes = (seat : ℕ) × (seat < seats) × (¬ HasSeat passes seat)

-- a pass of the seat differs from the journal first here
abbrev pub SeatDiffers : ℕ → List Entry → List PassView → PassPart × ℕ → Type 0
SeatDiffers seat entries passes at = (p : PassView) × Contains passes p × (p.seat ≡ seat) × DiffersFirst entries p at.0 at.1

-- The refusal of a close: a seat has no pass; or each has one, and a pass and the journal differ, at the first place by
-- seat. A journal is replayed in memory for the readings, so NoMemory may replace a difference.
abbrev pub IsUnclosed : ℕ → List Entry → List PassView → Refusal → Type 0
IsUnclosed seats entries passes Stranger = SomeIsMissing seats passes
IsUnclosed seats entries passes (Unsettled seat part place) =
    AllThere seats passes × All (λ (p : PassView). p.seat < seat → IsSettled entries p) passes × SeatDiffers seat entries passes (part, place)
IsUnclosed seats entries passes NoMemory = AllThere seats passes
IsUnclosed seats entries passes _ = ⊥
