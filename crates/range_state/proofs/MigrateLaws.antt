-- What a range keeps that goes over to format 2.
use Rattle.std.proofs.Common.{◌≡◌, ℕ, false, List, [], ◌∷◌, map, refl, sym, ap, ◌∙◌, arith, Any}
use Rattle.std.specs.List.{AllByRecursion}
use Rattle.std.proofs.lemmas.List.{length-map, get_or-map}
use Rattle.range_journal.specs.declared.journal.Entry.{Entry}
use Rattle.sync_session.specs.Walks.{Walk}
use Rattle.sync_session.specs.Steps.{cancelled_by}
use Rattle.sync_session.specs.declared.state.SessionState.{SessionState}
use Rattle.sync_session.specs.declared.state.SessionState.TheVariants.{Open, Finished, Failed, Cancelled}
use Rattle.sync_session.proofs.StepLaws.{All-weaker}
use Rattle.range_state.specs.declared.«record».Record.{Record}
use Rattle.range_store.specs.Config.{Config}
use Rattle.range_state.specs.Records.{IsKept, is_open, open_count}
use Rattle.range_state.specs.State.{State, IsRight, HasTaken}
use Rattle.range_store.specs.Store.{IsSound}
use Rattle.range_store.specs.Migrates.{config_in_two}
use Rattle.range_store.specs.Migrates as stores
use Rattle.range_state.specs.Migrates.{cancelled, in_two}
use Rattle.range_state.proofs.NumberLaws.{numbered_map}
use Rattle.range_state.proofs.SessionLaws.{kept_cancelled, keeps_cancelled}

-- ---- records

-- a cancelled session is not open
not_open : (w : Walk) (st : SessionState) → w.state ≡ st → (cancelled_by w st).state ≡ Open → ⊥
not_open w Open is still = absurd (let no : Cancelled ≡ Open = still in cc)
not_open w Finished is still = absurd (let no : Finished ≡ Open = sym is ∙ still in cc)
not_open w Failed is still = absurd (let no : Failed ≡ Open = sym is ∙ still in cc)
not_open w Cancelled is still = absurd (let no : Cancelled ≡ Open = sym is ∙ still in cc)

kept_in_two : (c : Config) (es : List Entry) (r : Record) → IsKept c es r → IsKept (config_in_two c) es (cancelled r)
kept_in_two c es r kept =
    let over = kept_cancelled c es r r.session r.session.state refl kept in
    record {
      here = record { bits = over.here.bits; range = over.here.range };
      format = λ still. absurd (not_open r.session r.session.state refl still);
      traced = over.traced;
      ended = over.ended;
      going = over.going;
    }

all_in_two : (c : Config) (es : List Entry) (rs : List Record) → AllByRecursion (IsKept c es) rs
    → AllByRecursion (IsKept (config_in_two c) es) (map cancelled rs)
all_in_two c es [] all = tt
all_in_two c es (r ∷ rs) all = (kept_in_two c es r all.0, all_in_two c es rs all.1)

shut : (w : Walk) (number partner : ℕ) (st : SessionState) → w.state ≡ st
    → is_open (record { number = number; partner = partner; session = cancelled_by w st }) ≡ false
unfolding is_open
shut w number partner Open is = refl
shut w number partner Finished is = rw is refl
shut w number partner Failed is = rw is refl
shut w number partner Cancelled is = rw is refl

none_open : (rs : List Record) → open_count (map cancelled rs) ≡ 0
none_open [] = refl
none_open (r ∷ rs) = rw (shut r.session r.number r.partner r.session.state refl) (none_open rs)

-- what a session has taken it has when it is cancelled
still_from : (e : Entry) (rs : List Record) → Any (λ (r : Record). HasTaken r.session e) rs
    → Any (λ (r : Record). HasTaken r.session e) (map cancelled rs)
still_from e rs any =
    let r : Record = any.1 in (
      any.0,
      cancelled r,
      omega (arith, any.2, length-map rs cancelled),
      get_or-map cancelled rs any.0 r (cancelled r) any.2 ∙ ap cancelled any.3,
      keeps_cancelled r.session r.session.state e any.4,
    )

-- ---- the state

pub right_in_two : (s : State) → IsRight s → IsSound (stores.in_two s.store) → IsRight (in_two s)
right_in_two s ok sound = record {
  store = sound;
  records = all_in_two s.store.config s.store.entries s.records ok.records;
  few = omega (arith, ok.few, length-map s.records cancelled);
  few_open = omega (arith, none_open s.records);
  numbers = numbered_map s.next_session cancelled (λ r. refl) s.records ok.numbers;
  partners = All-weaker _ _ s.store.entries (λ (e : Entry) from source. still_from e s.records (from source)) ok.partners;
  settled = ok.settled;
  moment = tt;
}
