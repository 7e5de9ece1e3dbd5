-- A renewal has no more entries than its replica; and the making of its new range.
use Rattle.std.proofs.Common.{◌≡◌, ◌⊎◌, inl, inr, ℕ, ◌+◌, ◌≤◌, List, [], ◌∷◌, length, take, drop, refl, sym, ap, subst, ◌∙◌, arith}
use Rattle.std.specs.Prelude.{Option, Some, None, MatchOption, IfSome, IsTrue, Result, Ok, Err, nat_le}
use Rattle.std.proofs.lemmas.Bool.{and_parts, leb-true}
use Rattle.std.proofs.lemmas.List.{length-append, length-take, length-drop}
use Rattle.vclock.specs.declared.refusal.Refusal.{Refusal}
use Rattle.vclock.specs.declared.refusal.Refusal.TheVariants.{Stale, NoMemory}
use Rattle.vclock.specs.Outcome.{Outcome, is_given, gives, refuses, ◌>>◌}
use Rattle.vclock.specs.Refusal.{cause_number}
use Rattle.range_journal.specs.declared.journal.Entry.{Entry}
use Rattle.range_journal.specs.declared.journal.Source.TheVariants.{Copy}
use Rattle.row_bytes.proofs.LimitLaws.{no_fault_else}
use Rattle.range_store.specs.Renewals.{basis_fault, offers_by_leaf}
use Rattle.range_store.specs.Store.{Store, entry_of}
use Rattle.range_store.proofs.RenewLaws.{held_within, length-copies}
use Rattle.range_state.specs.CatchUps.{Start, start_at, Renewing, renewing_from, later, is_same_place, stranger_fault, with_copy, with_copies_of}
use Rattle.range_state.specs.CatchUps.{Accepts, FallsBehind, CatchesUp, IsInPlaceOf}
use Rattle.range_state.specs.declared.moment.Moment.{Moment}
use Rattle.range_state.specs.State.{State, IsMomentOf, IsRight}
use Rattle.c_calls.specs.KeptRenewals.{KeptRenewal, start_in, at_stage, IsNoLonger, build, Builds, CatchesUpUnless, FallsBehindUnless}
use Rattle.c_calls.specs.declared.kept_renewal.RenewalStage.{RenewalStage}
use Rattle.c_calls.specs.declared.kept_renewal.RenewalStage.TheVariants.{Begun, Built}

-- ---- the beginning

at_moment : (s : State) (m : Option Moment) (start : Start) → IfSome m (IsMomentOf s.store) → MatchOption m ⊥ (λ x. start ≡ start_at s x)
    → length (offers_by_leaf start.basis.config start.basis.rows) ≤ start.front
at_moment s None start is begun = absurd (begun)
at_moment s (Some m) start is begun = subst (λ (b : Start). length (offers_by_leaf b.basis.config b.basis.rows) ≤ b.front) (sym begun)
    (omega (arith, held_within (record s.store { entries = take m.front s.store.entries }), length-take m.front s.store.entries))

-- at a moment no more versions are held than there are entries
pub begun_within : (s : State) (start : Start) → IsRight s → MatchOption s.moment ⊥ (λ x. start ≡ start_at s x)
    → length (offers_by_leaf start.basis.config start.basis.rows) ≤ start.front
begun_within s start right begun = at_moment s s.moment start right.moment begun

-- the new range has one entry for each version
pub built_within : (start : Start) (limit : ℕ) → length (offers_by_leaf start.basis.config start.basis.rows) ≤ start.front
    → IsNoLonger (renewing_from start 0 limit)
built_within start limit within = (omega arith, omega (arith, within, length-copies 0 0 (offers_by_leaf start.basis.config start.basis.rows)))

-- ---- catching up

pub copies_len : (s : Store) (seat : ℕ) (es : List Entry) → length (with_copies_of s seat es).entries ≡ length s.entries + length es
copies_len s seat [] = omega arith
copies_len s seat (e ∷ es) =
    omega (arith, copies_len (with_copy s seat e) seat es, length-append s.entries (entry_of s seat Copy e.key e.version ∷ []))

accepts_within : (r t : Renewing) (es : List Entry) → IsNoLonger r → Accepts r 0 es t → IsNoLonger t
accepts_within r t es within is = subst IsNoLonger (sym is.1) (omega (arith, within.0), omega (arith, within.1, copies_len r.state.store 0 es))

falls_within : (r t : Renewing) (s : State) (es : List Entry) (e : Refusal) → IsNoLonger r → FallsBehind r s 0 es e t → IsNoLonger t
falls_within r t s es e within (inl is) = subst IsNoLonger (sym is.1) within
falls_within r t s es e within (inr is) = accepts_within r t is.1.before within is.1.accepted

pub caught_up_within : (cause : Option Refusal) (r t : Renewing) (s : State) (most : ℕ) (x : Result ℕ Refusal) → IsNoLonger r
    → CatchesUpUnless cause r s most x t → IsNoLonger t
caught_up_within (Some e) r t s most x within is = subst IsNoLonger (sym is.1) within
caught_up_within None r t s most (Ok left) within is = accepts_within r t (later r s most) within is.1
caught_up_within None r t s most (Err e) within is = falls_within r t s (later r s most) e within is

pub behind_within : (cause : Option Refusal) (r t : Renewing) (s : State) (e : Refusal) → IsNoLonger r → FallsBehindUnless cause r s e t
    → IsNoLonger t
behind_within (Some x) r t s e within is = subst IsNoLonger (sym is.1) within
behind_within None r t s e within is = falls_within r t s (drop r.front s.store.entries) e within is

-- ---- the end

-- the new range has no more entries than the old one when it is in its place
pub no_longer : (r : Renewing) (s new : State) → IsNoLonger r → IsInPlaceOf r s 0 new → length new.store.entries ≤ length s.store.entries
no_longer r s new within is =
    let tests = and_parts (is_same_place r.state.store.config s.store.config) (nat_le r.front (length s.store.entries))
    (no_fault_else _ Stale is.0) in
    omega (
      arith,
      ap (λ (t : State). length t.store.entries) is.2,
      copies_len r.state.store 0 (drop r.front s.store.entries),
      length-drop r.front s.store.entries,
      within.1,
      leb-true r.front (length s.store.entries) tests.1,
    )

-- ---- the making of the new range

by_start : (old new : KeptRenewal) (start : Start) (code : ℕ) → old.stage ≡ Begun start → Builds (Some start) code old new
    → Builds (start_in old.stage) code old new
by_start old new start code is builds = subst (λ (s : RenewalStage). Builds (start_in s) code old new) (sym is) builds

-- it was made
pub built : (old : KeptRenewal) (start : Start) (renewal : Renewing) → old.stage ≡ Begun start → basis_fault start.basis old.limit ≡ None
    → renewal ≡ renewing_from start 0 old.limit
    → Builds (start_in old.stage) 0 old (at_stage old (Built renewal))
built old start renewal is none made =
    let new = at_stage old (Built renewal) in
    let does : build old start ≡ gives tt new = ap
    (λ (f : Option Refusal). f >> gives tt (at_stage old (Built (renewing_from start 0 old.limit)))) none
    ∙ ap (λ (r : Renewing). gives tt (at_stage old (Built r))) (sym made) in
    by_start old new start 0 is (record { outcome = Ok tt; number = refl; right = does })

abbrev given : KeptRenewal → Outcome (Unit {0}) KeptRenewal
given r = gives tt r

unless : (f : Option Refusal) (made : KeptRenewal) (e : Refusal) → ((f ≡ None) × (e ≡ NoMemory)) ⊎ (f ≡ Some e)
    → ((e ≡ NoMemory) × IsTrue (is_given (f >> given made))) ⊎ ((f >> given made) ≡ refuses e)
unless f made e (inl none) = inl (none.1, subst (λ (g : Option Refusal). IsTrue (is_given (g >> given made))) (sym none.0) refl)
unless f made e (inr some) = inr (ap (λ (g : Option Refusal). g >> given made) some)

-- it was refused
pub not_built : (old : KeptRenewal) (start : Start) (code : ℕ) (e : Refusal) → old.stage ≡ Begun start → code ≡ cause_number e
    → ((basis_fault start.basis old.limit ≡ None) × (e ≡ NoMemory)) ⊎ (basis_fault start.basis old.limit ≡ Some e)
    → Builds (start_in old.stage) code old old
not_built old start code e is number cause =
    by_start old old start code is
    (record {
      outcome = Err e;
      number = number;
      right = (refl, unless (basis_fault start.basis old.limit) (at_stage old (Built (renewing_from start 0 old.limit))) e cause);
    })
