-- Two replicas that catch up with each other: how their sessions begin and end.
use Rattle.std.proofs.Common.{◌≡◌, ℕ, ◌<◌, true, false, Option, Some, None, List, [], ◌∷◌, ◌++◌, length, refl, sym, ap, ◌∙◌, arith, slice_get}
use Rattle.std.specs.Prelude.{Result, Ok, Err}
use Rattle.vclock.specs.Outcome.{gives, DoesAtOnce}
use Rattle.vclock.specs.declared.refusal.Refusal.{Refusal}
use Rattle.tree_nodes.specs.Nodes.{are_clean, dirty_count}
use Rattle.snapshot.specs.RowMaps.{RowMap}
use Rattle.range_state.specs.declared.«record».Record.{Record}
use Rattle.range_state.specs.declared.state.sync.Synced.{Synced}
use Rattle.range_state.specs.State.{State}
use Rattle.range_state.specs.Sessions.{cancel_record, cancel_at}
use Rattle.range_state.specs.Syncs.{HasAskedAll, IsSyncedTo, IsPartWay}
use Rattle.range_state.specs.Reconciles.{HasGivenUp, HasBrokenOff}
use Rattle.range_state.proofs.SyncStepLaws.{got_last}

-- where no node is dirty, all are clean
pub none_dirty : (ds : List (Option (List ℕ))) → dirty_count ds ≡ 0 → are_clean ds ≡ true
none_dirty [] h = refl
none_dirty (None ∷ ds) h = absurd (omega arith)
none_dirty (Some d ∷ ds) h = none_dirty ds h

pub some_dirty : (ds : List (Option (List ℕ))) → 0 < dirty_count ds → are_clean ds ≡ false
some_dirty [] h = absurd (omega arith)
some_dirty (None ∷ ds) h = refl
some_dirty (Some d ∷ ds) h = some_dirty ds h

-- ---- the newest session is cancelled

cancelled_last : (s last new : State) (id : ℕ) (r : Record) (result : Result (Unit {0}) Refusal) → last.records ≡ s.records ++ r ∷ []
    → id ≡ length s.records → DoesAtOnce result last new (cancel_at last id) → cancel_at last (length s.records) ≡ gives tt new
cancelled_last s last new id r (Ok x) is at did = ap (cancel_at last) (sym at) ∙ did
cancelled_last s last new id r (Err e) is at did =
    let here : slice_get last.records id ≡ Some r = ap (λ (rs : List Record). slice_get rs id) is ∙ ap (slice_get (s.records ++ r ∷ [])) at
    ∙ got_last s.records r in
    let given = ap (cancel_record last id) here in
    absurd (let clash = sym given ∙ did.1 in cc)

got_none : (rs : List Record) → slice_get rs (length rs) ≡ None
got_none [] = refl
got_none (r ∷ rs) = got_none rs

-- a session that refused a leaf was cancelled
pub given_up : (s last new : State) (seat partner id : ℕ) (other : RowMap) (sync : Synced) (e : Refusal) (result : Result (Unit {0}) Refusal)
    → IsSyncedTo s seat other last sync → HasAskedAll s partner other last.records → sync.fault ≡ Some e → id ≡ length s.records
    → DoesAtOnce result last new (cancel_at last id) → HasGivenUp s seat partner other e new
given_up s last new seat partner id other sync e result synced session cause at did = record {
  last = last;
  sync = sync;
  synced = synced;
  session = session;
  cause = cause;
  cancelled = cancelled_last s last new id session.0.r result session.0.records at did;
}

-- and so was one that no memory was left for
pub broken_off : (s last new : State) (seat partner id : ℕ) (other : RowMap) (result : Result (Unit {0}) Refusal)
    → IsPartWay s seat partner other last → id ≡ length s.records
    → DoesAtOnce result last new (cancel_at last id) → HasBrokenOff s seat partner other new
broken_off s last new seat partner id other result part at did = record {
  last = last;
  part = part;
  cancelled = cancelled_last s last new id part.session.r result part.session.records at did;
}

-- a session that was not opened is none to cancel
pub none_opened : (s last new : State) (id : ℕ) (result : Result (Unit {0}) Refusal) → last ≡ s → id ≡ length s.records
    → DoesAtOnce result last new (cancel_at last id) → new ≡ s
none_opened s last new id (Ok x) same at did =
    let none : slice_get last.records id ≡ None = ap (λ (t : State). slice_get t.records id) same ∙ ap (slice_get s.records) at
    ∙ got_none s.records in
    let refused = ap (cancel_record last id) none in
    absurd (let clash = sym refused ∙ did in cc)
none_opened s last new id (Err e) same at did = did.0 ∙ same
