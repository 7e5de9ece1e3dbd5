-- A range without its ended sessions.
use Rattle.std.proofs.Common.{◌≡◌, ◌≢◌, ℕ, ◌≤◌, Bool, true, false, cond, Option, Some, None, List, [], ◌∷◌, length, take, refl, sym, ap, subst, ◌∙◌}
use Rattle.std.proofs.Common.{arith, inl, inr, slice_get}
use Rattle.std.specs.Option.{IfSome}
use Rattle.std.specs.List.{AllByRecursion, filter}
use Rattle.std.proofs.lemmas.Bool.{eq-eqb, ne_eqb, cases_eq}
use Rattle.std.proofs.lemmas.List.{length-map}
use Rattle.version_set.specs.Order.{Pairwise}
use Rattle.version_set.specs.declared.version.Version.{Version}
use Rattle.version_set.proofs.ListLaws.{all-filter}
use Rattle.range_journal.specs.declared.journal.Entry.{Entry}
use Rattle.range_journal.specs.Journal.{held}
use Rattle.range_journal.specs.Copies.{as_copy, as_copies}
use Rattle.range_journal.proofs.CopyLaws.{copies_held, copies_taken, copies_others, copies_settled}
use Rattle.sync_session.specs.Walks.{Walked}
use Rattle.sync_session.proofs.StepLaws.{All-weaker}
use Rattle.range_store.specs.Config.{Config}
use Rattle.range_store.specs.Rows.{rows_of}
use Rattle.range_store.specs.Store.{Store}
use Rattle.range_store.specs.Copies.{with_copies}
use Rattle.range_store.proofs.CopyLaws.{copies_rows, copies_sound}
use Rattle.range_state.specs.declared.moment.Moment.{Moment}
use Rattle.range_state.specs.declared.«record».Record.{Record}
use Rattle.range_state.specs.Records.{IsKept, is_open, record_of}
use Rattle.range_state.specs.State.{State, IsRight, IsMomentOf, rows_at}
use Rattle.range_state.specs.Endings.{without_ended_sessions, if_open}
use Rattle.range_state.proofs.NumberLaws.{Below, numbered_filter, place_missing}

-- ---- the state is right

pub held_alike : (es : List Entry) → held (as_copies es) ≡ held es
held_alike es = λ i key. copies_held es key i

kept_alike : (c : Config) (es : List Entry) (r : Record) → IsKept c es r → IsKept c (as_copies es) r
kept_alike c es r kept = record {
  here = kept.here;
  format = kept.format;
  traced = kept.traced;
  ended = kept.ended;
  going = elim kept.going [
    | inl over ↦ inl over
    | inr on ↦ inr (record {
      walked = subst (λ (h : List ℕ → List Version). Walked h r.session) (sym (held_alike es)) on.walked;
      orderly = on.orderly;
    })
  ];
}

-- no more records than before
fewer : (keep : Record → Bool) (rs : List Record) → length (filter keep rs) ≤ length rs
fewer keep [] = omega arith
fewer keep (r ∷ rs) = by_test (keep r) (fewer keep rs)
  where
    by_test : (b : Bool) → length (filter keep rs) ≤ length rs → length (cond b (r ∷ filter keep rs) (filter keep rs)) ≤ length (r ∷ rs)
    by_test true less = omega (arith, less)
    by_test false less = omega (arith, less)

moment_alike : (s : Store) (m : Option Moment) → IfSome m (IsMomentOf s) → IfSome m (IsMomentOf (with_copies s))
moment_alike s None is = tt
moment_alike s (Some m) is = record {
  front = omega (arith, is.front, length-map s.entries as_copy);
  rows = is.rows ∙ same;
  right = is.right;
}
  where
    first : rows_of (take m.front s.entries) ≡ rows_of (take m.front (as_copies s.entries))
    first = sym (ap rows_of (copies_taken m.front s.entries) ∙ copies_rows (take m.front s.entries))

    same : rows_at s m.front ≡ rows_at (with_copies s) m.front
    same = λ i. record { format = s.config.format; bits = s.config.bits; range = s.config.range; rows = first i }

pub right_without : (s : State) → IsRight s → IsRight (without_ended_sessions s)
right_without s ok = record {
  store = copies_sound s.store ok.store;
  records = all-filter (IsKept s.store.config (as_copies s.store.entries)) is_open s.records
      (All-weaker _ _ s.records (kept_alike s.store.config s.store.entries) ok.records);
  few = omega (arith, ok.few, fewer is_open s.records);
  few_open = omega (arith, ok.few_open, fewer is_open (filter is_open s.records));
  numbers = numbered_filter s.next_session is_open s.records ok.numbers;
  partners = All-weaker _ _ (as_copies s.store.entries) (λ e other from. absurd (other from)) (copies_others s.store.entries);
  settled = copies_settled s.store.entries;
  moment = moment_alike s.store s.moment ok.moment;
}

-- the state after its parts were changed
pub dropped : (s : State) {store : Store} {records : List Record} {count : ℕ} → store ≡ with_copies s.store → records ≡ filter is_open s.records
    → count ≡ length s.store.entries
    → record {
      store = store;
      records = records;
      moment = s.moment;
      whole_before = s.whole_before;
      next_session = s.next_session;
      settled = count;
    } ≡ without_ended_sessions s
dropped s made kept all =
    λ i. record { store = made i; records = kept i; moment = s.moment; whole_before = s.whole_before; next_session = s.next_session; settled = all i }

-- ---- the numbers

past_end : (rs : List Record) → slice_get rs (length rs) ≡ None
past_end [] = refl
past_end (r ∷ rs) = past_end rs

-- a number below those of all records is that of none
below_all : (rs : List Record) (r : Record) (id : ℕ) → r.number ≡ id → AllByRecursion (Below r) rs → record_of id rs ≡ None
below_all rs r id is less = ap (slice_get rs) (place_missing rs id (All-weaker _ _ rs (λ x h e. omega (arith, h, e, is)) less)) ∙ past_end rs

pub names_open : (rs : List Record) (id : ℕ) → Pairwise Below rs → record_of id (filter is_open rs) ≡ if_open (record_of id rs)
names_open [] id pairs = refl
names_open (r ∷ rs) id pairs = elim (cases_eq r.number id) [
  | inl is ↦ rw (eq-eqb r.number id is) (here (is_open r) is)
  | inr other ↦ rw (ne_eqb r.number id other) (later (is_open r) other (names_open rs id pairs.1))
]
  where
    here : (b : Bool) → r.number ≡ id → record_of id (cond b (r ∷ filter is_open rs) (filter is_open rs)) ≡ cond b (Some r) None
    here true is = rw (eq-eqb r.number id is) refl
    here false is = below_all (filter is_open rs) r id is (all-filter (Below r) is_open rs pairs.0)

    later : (b : Bool) → r.number ≢ id → record_of id (filter is_open rs) ≡ if_open (record_of id rs)
        → record_of id (cond b (r ∷ filter is_open rs) (filter is_open rs)) ≡ if_open (record_of id rs)
    later true other rest = rw (ne_eqb r.number id other) rest
    later false other rest = rest
