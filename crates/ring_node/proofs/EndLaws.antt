-- A session that was cancelled is not open.
use Rattle.std.proofs.Common.{◌≡◌, ◌≢◌, ℕ, ◌<◌, Option, Some, None, List, length, get_or, set, refl, sym, ap, subst, ◌∙◌, arith, slice_get}
use Rattle.std.proofs.lemmas.List.{length-set, get_or-set_same}
use Rattle.std.proofs.lemmas.Option.{slice_get-get_or, slice_get_within, get_or_from_slice_get}
use Rattle.vclock.specs.Outcome.{gives, through}
use Rattle.sync_session.specs.Steps.{cancelled_by}
use Rattle.sync_session.specs.Walks.{Walk}
use Rattle.sync_session.specs.declared.state.SessionState.{SessionState}
use Rattle.sync_session.specs.declared.state.SessionState.TheVariants.{Open, Finished, Failed, Cancelled}
use Rattle.range_state.specs.declared.«record».Record.{Record}
use Rattle.range_state.specs.Records.{place_of, record_of}
use Rattle.range_state.specs.Sessions.{cancel_record, cancel_session, walked_to}
use Rattle.range_state.proofs.NumberLaws.{place_kept}
use Rattle.caller_pass.specs.Locks.{Locked, moved}
use Rattle.ring_node.specs.Walks.{IsEndIn}

not_open : (w : Walk) (state : SessionState) → w.state ≡ state → (cancelled_by w state).state ≢ Open
not_open w Open is = λ still. let no : Cancelled ≡ Open = still in cc
not_open w Finished is = λ still. let no : Finished ≡ Open = sym is ∙ still in cc
not_open w Failed is = λ still. let no : Failed ≡ Open = sym is ∙ still in cc
not_open w Cancelled is = λ still. let no : Cancelled ≡ Open = sym is ∙ still in cc

-- a record in the place of another of its number has that number
replaced : (rs : List Record) (id : ℕ) (r new : Record) → record_of id rs ≡ Some r → new.number ≡ r.number
    → record_of id (set rs (place_of id rs) new) ≡ Some new
replaced rs id r new has same =
    let place = place_of id rs in
    let was : r ≡ get_or rs place r = sym (get_or_from_slice_get rs place r r has) in
    let within : place < length rs = slice_get_within rs place r has in
    let inside : place < length (set rs place new) = omega (arith, within, length-set rs place new) in
    ap (slice_get (set rs place new)) (place_kept rs id place r new was same)
    ∙ slice_get-get_or (set rs place new) place new inside
    ∙ ap (λ (x : Record). Some x) (get_or-set_same rs place new new within)

over : (l m : Locked) (id : ℕ) (r : Record) (o : Option Record) → record_of id l.state.records ≡ o
    → through (moved l) (cancel_record l.state (place_of id l.state.records) o) ≡ gives tt m → record_of id m.state.records ≡ Some r
    → r.session.state ≢ Open
over l m id r None is did has = absurd (cc)
over l m id r (Some x) is did has =
    let new : Record = record x { session = cancelled_by x.session x.session.state } in
    let now : moved l (walked_to l.state (place_of id l.state.records) x (cancelled_by x.session x.session.state)) ≡ m = cc in
    let there : Some r ≡ Some new = sym has ∙ ap (λ (k : Locked). record_of id k.state.records) (sym now)
    ∙ replaced l.state.records id x new is refl in
    let same : r ≡ new = cc in
    λ still. not_open x.session x.session.state refl (sym (ap (λ (y : Record). y.session.state) same) ∙ still)

pub ended_in : (l m : Locked) (id : ℕ) (r : Record) {state : SessionState} {asked : ℕ} → through (moved l) (cancel_session l.state id) ≡ gives tt m
    → record_of id m.state.records ≡ Some r → r.session.state ≡ state → length r.session.asked ≡ asked → IsEndIn m.state.records id state asked
ended_in l m id r did has state_is asked_is = record {
  r = r;
  there = has;
  state_is = state_is;
  asked_is = asked_is;
  over = subst (λ (s : SessionState). s ≢ Open) state_is (over l m id r (record_of id l.state.records) refl did has);
}
