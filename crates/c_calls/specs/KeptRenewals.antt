-- Renewals of replicas in parallel with puts, as C makes them.
use Rattle.std.specs.Prelude.{◌≡◌, ◌⊎◌, ℕ, ◌+◌, ◌-◌, ◌≤◌, ◌==◌, length, drop, Option, Some, None, MatchOption, Result, Ok, Err, if◌then◌else◌}
use Rattle.vclock.specs.Answer.{first_fault}
use Rattle.vclock.specs.Outcome.{Outcome, Does, gives, ◌>>◌}
use Rattle.vclock.specs.declared.refusal.Refusal.{Refusal}
use Rattle.vclock.specs.declared.refusal.Refusal.TheVariants.{Stale}
use Rattle.range_store.specs.Renewals.{basis_fault, offers_by_leaf}
use Rattle.range_state.specs.CatchUps.{Start, start_at, Renewing, renewing_from, FallsBehind, CatchesUp, IsInPlaceOf, caught_up}
use Rattle.range_state.specs.declared.moment.Moment.{Moment}
use Rattle.range_state.specs.State.{State}
use Rattle.c_calls.specs.Kept.{KeptState, entries_in, number_fault}
use Rattle.c_calls.specs.Numbers.{Returns, EMPTY, HELD}
use Rattle.c_calls.specs.Sessions.{TellsNumber}
use Rattle.c_calls.specs.declared.kept_renewal.RenewalStage.{RenewalStage}
use Rattle.c_calls.specs.declared.kept_renewal.RenewalStage.TheVariants as stages

-- ---- the stages

-- the number of the first entry in the replica's journal, the limit of the new one, and the stage
pub record KeptRenewal : Type 0 where
  pub first : ℕ
  pub limit : ℕ
  pub stage : RenewalStage

-- the rows of the moment, until the new range is made
abbrev pub start_in : RenewalStage → Option Start
start_in (stages.Begun start) = Some start
start_in (stages.Built r) = None
start_in (stages.Ended s) = None
start_in stages.Vacant = None

-- the new range alongside the old one, until it is in its place
abbrev pub renewing_in : RenewalStage → Option Renewing
renewing_in (stages.Begun start) = None
renewing_in (stages.Built r) = Some r
renewing_in (stages.Ended s) = None
renewing_in stages.Vacant = None

-- the renewal in another stage
abbrev pub at_stage : KeptRenewal → RenewalStage → KeptRenewal
at_stage r stage = record { first = r.first; limit = r.limit; stage = stage }

-- the new range began at `front` or before, and has at most `front` entries
abbrev pub IsNoLonger : Renewing → Type 0
IsNoLonger r = (r.began ≤ r.front) × (length r.state.store.entries ≤ r.front)

-- a new range has, or will have, no more entries than the old one
abbrev pub IsRenewal : RenewalStage → Type 0
IsRenewal (stages.Begun start) = length (offers_by_leaf start.basis.config start.basis.rows) ≤ start.front
IsRenewal (stages.Built r) = IsNoLonger r
IsRenewal (stages.Ended s) = Unit {0}
IsRenewal stages.Vacant = Unit {0}

-- ---- the beginning

-- a renewal with a limit begins with the rows of the replica's moment
abbrev pub BeginsAt : KeptState → ℕ → KeptRenewal → Type 0
BeginsAt k limit r = MatchOption k.state.moment ⊥ (λ m. r ≡ record { first = k.first; limit = limit; stage = stages.Begun (start_at k.state m) })

-- the new range is made of the rows
abbrev pub build : KeptRenewal → Start → Outcome (Unit {0}) KeptRenewal
build r start = do
  basis_fault start.basis r.limit
  gives tt (at_stage r (stages.Built (renewing_from start 0 r.limit)))

-- it is made if the rows are there; otherwise HELD is returned
abbrev pub Builds : Option Start → ℕ → KeptRenewal → KeptRenewal → Type 0
Builds (Some start) code old new = Returns code (λ (x : Result (Unit {0}) Refusal). Does x old new (build old start))
Builds None code old new = (code ≡ HELD) × (new ≡ old)

-- ---- catching up

-- the fault of a replica whose journal begins at another number than the renewal's
abbrev pub first_number_fault : ℕ → KeptState → Option Refusal
first_number_fault first k = if first == k.first then None else Some Stale

-- the new range r catches up, unless there is a cause before
abbrev pub CatchesUpUnless : Option Refusal → Renewing → State → ℕ → Result ℕ Refusal → Renewing → Type 0
CatchesUpUnless None r s most x t = CatchesUp r s 0 most x t
CatchesUpUnless (Some e) r s most x t = (x ≡ Err e) × (t ≡ r)

-- the renewal still has a new range, which satisfies `Right`
abbrev pub Keeps : KeptRenewal → KeptRenewal → (Renewing → Type 0) → Type 0
Keeps old new Right = (new.first ≡ old.first) × (new.limit ≡ old.limit) × MatchOption (renewing_in new.stage) ⊥ Right

-- the new range catches up with the replica, if it is made; otherwise EMPTY is returned
abbrev pub CatchesUpWith : Option Renewing → KeptState → ℕ → ℕ → KeptRenewal × ℕ → KeptRenewal × ℕ → Type 0
CatchesUpWith (Some r) k most code old new = Returns code (λ (x : Result ℕ Refusal).
    Keeps old.0 new.0 (CatchesUpUnless (first_number_fault old.0.first k) r k.state most x) × TellsNumber x old.1 new.1)
CatchesUpWith None k most code old new = (code ≡ EMPTY) × (new.0 ≡ old.0) × (new.1 ≡ old.1)

-- ---- the end

-- the fault of a replica with another first number, or with too few numbers left
abbrev pub finish_fault : ℕ → KeptState → Option Refusal
finish_fault first k = first_fault (first_number_fault first k) (number_fault k)

-- The new range is in the place of the replica's. The last number that was used belongs to its last entry.
abbrev pub IsRenewedBy : Renewing → KeptState → KeptState → Type 0
IsRenewedBy r k new = IsInPlaceOf r k.state 0 new.state
    × (new ≡ record { state = new.state; first = entries_in k - length new.state.store.entries; renewed = k.first + r.began })

-- the new range r is t, and is not in the replica's place for a cause
abbrev pub FallsBehindUnless : Option Refusal → Renewing → State → Refusal → Renewing → Type 0
FallsBehindUnless None r s e t = FallsBehind r s 0 (drop r.front s.store.entries) e t
FallsBehindUnless (Some cause) r s e t = (e ≡ cause) × (t ≡ r)

-- afterwards the renewal has the old range; on error the replica is unchanged
abbrev pub Replaces : Renewing → Result (Unit {0}) Refusal → KeptRenewal → KeptRenewal → KeptState → KeptState → Type 0
Replaces r (Ok _) old new k l = (finish_fault old.first k ≡ None) × IsRenewedBy r k l × (new ≡ at_stage old (stages.Ended k.state))
Replaces r (Err e) old new k l = (l ≡ k) × Keeps old new (FallsBehindUnless (finish_fault old.first k) r k.state e)

-- the new range is put in the replica's place, if it is made; otherwise EMPTY is returned
abbrev pub Finishes : Option Renewing → ℕ → KeptRenewal → KeptRenewal → KeptState → KeptState → Type 0
Finishes (Some r) code old new k l = Returns code (λ (x : Result (Unit {0}) Refusal). Replaces r x old new k l)
Finishes None code old new k l = (code ≡ EMPTY) × (new ≡ old) × (l ≡ k)

-- ---- for the law

-- the new range begins with the rows of a moment of s, and has the next n entries of s
pub record HasCaughtUp (r : Renewing) (s : State) (m : Moment) (limit n : ℕ) : Type 0 where
  pub store : r.state.store ≡ caught_up s m 0 limit n
  pub began : r.began ≡ m.front
  pub front : r.front ≡ m.front + n
