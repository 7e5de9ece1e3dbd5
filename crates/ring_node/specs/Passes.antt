-- The changes of a pass by a call through a lock, and the refusals of the call, as far as they follow from the pass and
-- the arguments.
use Rattle.std.specs.Prelude.{◌≡◌, ℕ, ◌+◌, ◌<◌, ◌≤◌, List, [], ◌∷◌, Some, None, MatchOption}
use Rattle.vclock.specs.Clock.{raise_fault, Pairs}
use Rattle.vclock.specs.Bytes.{key_fault}
use Rattle.vclock.specs.declared.format.Format.{Format}
use Rattle.vclock.specs.declared.refusal.Refusal.{Refusal}
use Rattle.vclock.specs.declared.refusal.Refusal.TheVariants.{BadKey, BadValue, OtherRange, ClockFull, CounterFull, StaleContext, Crowded, JournalFull, Behind, NoMemory}
use Rattle.version_set.specs.Kind.{value_fault}
use Rattle.version_set.specs.declared.kind.Kind.{Kind}
use Rattle.version_set.specs.declared.version.Version.{Version}
use Rattle.range_journal.specs.declared.journal.Entry.{Entry}
use Rattle.range_journal.specs.declared.journal.Source.{Source}
use Rattle.range_store.specs.declared.receipt.Accepted.{Accepted}
use Rattle.range_store.specs.declared.receipt.Accepted.TheVariants.{Taken, Known}
use Rattle.caller_pass.specs.Passes.{PassView, with_receipts, with_reading}
use Rattle.caller_pass.specs.Locks.{first_missing}

-- the receipt has that seat, source, key and version; the range chooses its number
pub record IsReceiptOf (seat : ℕ) (source : Source) (key : List ℕ) (version : Version) (e : Entry) : Type 0 where
  pub seat_is : e.seat ≡ seat
  pub source_is : e.source ≡ source
  pub key_is : e.key ≡ key
  pub version_is : e.version ≡ version

-- the pass got only the receipt of that entry, and has seen the journal up to it
abbrev pub HasReceiptOf : PassView → PassView → Entry → Type 0
HasReceiptOf p q e = q ≡ with_receipts p (e.number + 1) (e ∷ [])

-- the pass got the receipt of a version that was accepted, and is unchanged if the version was known
abbrev pub IsSent : PassView → Source → List ℕ → Version → PassView → Accepted → Type 0
IsSent p source key version q (Taken e) = IsReceiptOf p.seat source key version e × HasReceiptOf p q e
IsSent p source key version q Known = q ≡ p

-- some format refuses a value of that kind
abbrev pub IsOddValue : Kind → List ℕ → Type 0
IsOddValue kind value = (format : Format) × (value_fault format kind value ≡ Some BadValue)

-- The refusal of a put: the key is tested first, then place and value in the range, then the clock, and then the held
-- versions.
abbrev pub IsPutRefusal : ℕ → List ℕ → Pairs → Kind → List ℕ → Refusal → Type 0
IsPutRefusal at key context kind value BadKey = key_fault key ≡ Some BadKey
IsPutRefusal at key context kind value BadValue = (key_fault key ≡ None) × IsOddValue kind value
IsPutRefusal at key context kind value OtherRange = key_fault key ≡ None
IsPutRefusal at key context kind value ClockFull = (key_fault key ≡ None) × (raise_fault context at ≡ Some ClockFull)
IsPutRefusal at key context kind value CounterFull = (key_fault key ≡ None) × (raise_fault context at ≡ Some CounterFull)
IsPutRefusal at key context kind value (StaleContext clocks) = (key_fault key ≡ None) × (raise_fault context at ≡ None)
IsPutRefusal at key context kind value Crowded = (key_fault key ≡ None) × (raise_fault context at ≡ None)
IsPutRefusal at key context kind value JournalFull = (key_fault key ≡ None) × (raise_fault context at ≡ None)
IsPutRefusal at key context kind value NoMemory = (key_fault key ≡ None) × (raise_fault context at ≡ None)
IsPutRefusal at key context kind value _ = ⊥

-- the refusal of a version of another node: the key is tested first
abbrev pub IsSentRefusal : List ℕ → Version → Refusal → Type 0
IsSentRefusal key v BadKey = key_fault key ≡ Some BadKey
IsSentRefusal key v BadValue = (key_fault key ≡ None) × IsOddValue v.kind v.value
IsSentRefusal key v OtherRange = key_fault key ≡ None
IsSentRefusal key v Crowded = key_fault key ≡ None
IsSentRefusal key v JournalFull = key_fault key ≡ None
IsSentRefusal key v NoMemory = key_fault key ≡ None
IsSentRefusal key v _ = ⊥

-- The pass has one more reading, with these versions of the key: they cover each receipt of the pass for it, and were
-- held by a journal at least as long as the part that it had seen.
pub record IsReading (p : PassView) (key : List ℕ) (q : PassView) (versions : List Version) : Type 0 where
  pub journal : ℕ
  pub seen : p.seen ≤ journal
  pub covers : first_missing p.receipts key versions ≡ None
  pub pass : q ≡ with_reading p (record { front = journal; key = key; versions = versions })

-- a receipt of the pass for the key is not covered by some versions, and the first such one has that number
abbrev pub IsMissing : PassView → List ℕ → ℕ → Type 0
IsMissing p key number = (versions : List Version) × (first_missing p.receipts key versions ≡ Some number)

-- the refusal of a read: the journal is shorter than the part that the pass has seen, or a receipt of the pass is not
-- covered
abbrev pub IsBehind : PassView → List ℕ → Refusal → Type 0
IsBehind p key (Behind seen journal missing) = (seen ≡ p.seen) × MatchOption missing (journal < p.seen) (λ number. (p.seen ≤ journal) × IsMissing p key number)
IsBehind p key NoMemory = Unit {0}
IsBehind p key _ = ⊥
