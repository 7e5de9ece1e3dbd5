-- Sessions that are opened, go on and end.
use Rattle.std.proofs.Common.{◌≡◌, ◌≢◌, ℕ, zero, suc, ◌+◌, ◌<◌, ◌≤◌, Bool, true, false, if◌then◌else◌, Option, Some, None, List, [], ◌∷◌, ◌++◌}
use Rattle.std.proofs.Common.{length, map, set, get_or, refl, sym, ap, subst, ◌∙◌, inl, inr, arith, Any}
use Rattle.std.specs.Prelude.{nat_le, ◌||◌}
use Rattle.std.specs.Option.{IfSome}
use Rattle.std.specs.List.{AllByRecursion, filter}
use Rattle.std.proofs.lemmas.Bool.{cases_eq, cases_lt, or_parts, both_ways, le-leb}
use Rattle.std.proofs.lemmas.List.{length-append, length-map, length-set, get_or_append_left, get_or_default, get_or-set_same, get_or-set_other}
use Rattle.vclock.specs.declared.refusal.Refusal.TheVariants.{SessionsFull}
use Rattle.version_set.proofs.ListLaws.{all-append, all-push}
use Rattle.range_journal.specs.declared.journal.Entry.{Entry}
use Rattle.range_journal.specs.declared.journal.Source.TheVariants.{Partner}
use Rattle.range_journal.specs.Journal.{held}
use Rattle.range_journal.specs.Copies.{IsSettled}
use Rattle.range_journal.proofs.CopyLaws.{settled_grows}
use Rattle.hash_tree.proofs.ChunkLaws.{all-set}
use Rattle.hash_tree.proofs.KeyLaws.{all_get}
use Rattle.tree_nodes.specs.Nodes.{Node}
use Rattle.snapshot.specs.RowMaps.{RowMap, IsRowMap}
use Rattle.sync_session.specs.Walks.{Walk, Held, first_asked}
use Rattle.sync_session.specs.Steps.{state_by, started, cancelled_by}
use Rattle.sync_session.specs.declared.state.SessionState.{SessionState}
use Rattle.sync_session.specs.declared.state.SessionState.TheVariants.{Open, Finished, Failed, Cancelled}
use Rattle.sync_session.proofs.StepLaws.{All-weaker, walked_started}
use Rattle.sync_session.proofs.CountLaws.{orderly_started}
use Rattle.sync_session.proofs.TraceLaws.{traced, traced_cancelled}
use Rattle.range_state.specs.declared.«record».Record.{Record}
use Rattle.range_store.specs.Config.{Config}
use Rattle.range_state.specs.Records.{IsKept, is_open_state, is_open, open_count}
use Rattle.range_state.specs.declared.moment.Moment.{Moment}
use Rattle.range_state.specs.State.{State, IsRight, HasTaken, rows_at, IsMomentOf}
use Rattle.range_store.specs.Store.{Store, IsSound, rows_now}
use Rattle.range_state.specs.Sessions.{standings, crowd_fault}
use Rattle.range_state.specs.Moments.{moment_fault, front_of}
use Rattle.row_bytes.proofs.LimitLaws.{no_fault}
use Rattle.range_state.proofs.HeldRows.{rows_held}
use Rattle.range_state.proofs.MomentLaws.{moment_grows, held_at}
use Rattle.range_state.proofs.NumberLaws.{numbered_push, numbered_set}
use Rattle.range_state.proofs.RecordLaws.{all_kept}
use Rattle.range_store.proofs.OfferLaws.{row_map_now}

-- ---- lists

pub any-append : {X : Type 0} (P : X → Type 0) (xs ys : List X) → Any P xs → Any P (xs ++ ys)
any-append P xs ys a = (a.0, a.1, omega (arith, a.2, length-append xs ys), get_or_append_left xs ys a.1 a.0 a.2 ∙ a.3, a.4)

-- some element still passes, where one is replaced by another that passes if the first did
pub any-set : {X : Type 0} (P : X → Type 0) (xs : List X) (i : ℕ) (x y : X) → x ≡ get_or xs i x → (P x → P y) → Any P xs → Any P (set xs i y)
any-set P xs i x y is stays a = elim (cases_eq a.0 i) [
  | inl here ↦
      let same : x ≡ a.1 = is ∙ ap (λ (k : ℕ). get_or xs k x) (sym here) ∙ get_or_default xs a.0 x a.1 a.2 ∙ a.3 in (
        a.0,
        y,
        omega (arith, a.2, length-set xs i y),
        ap (λ (k : ℕ). get_or (set xs i y) k y) here ∙ get_or-set_same xs i y y (omega (arith, here, a.2)),
        stays (subst P (sym same) a.4),
      )
  | inr other ↦ (
    a.0,
    a.1,
    omega (arith, a.2, length-set xs i y),
    get_or-set_other xs i a.0 y a.1 other ∙ a.3,
    a.4,
  )
]

-- ---- how many sessions are open

abbrev one_if : Bool → ℕ
one_if b = if b then 1 else 0

counts : (b : Bool) (r : Record) (rs : List Record) → length (if b then r ∷ rs else rs) ≡ one_if b + length rs
counts true r rs = omega arith
counts false r rs = omega arith

one_at_most : (b : Bool) → one_if b ≤ 1
one_at_most true = omega arith
one_at_most false = omega arith

no_more : (b c : Bool) → (b ≡ true → c ≡ true) → one_if b ≤ one_if c
no_more true true h = omega arith
no_more true false h = absurd (let clash : false ≡ true = h refl in cc)
no_more false c h = omega arith

-- one more at the most, with a record at the end
open_push : (rs : List Record) (r : Record) → open_count (rs ++ r ∷ []) ≤ open_count rs + 1
open_push [] r = omega (arith, counts (is_open r) r [], one_at_most (is_open r))
open_push (x ∷ rs) r = omega (arith, counts (is_open x) x (filter is_open rs), counts (is_open x) x (filter is_open (rs ++ r ∷ [])), open_push rs r)

-- no more, with a record in the place of another that was open if it is
open_set : (rs : List Record) (id : ℕ) (r new : Record) → r ≡ get_or rs id r → (is_open new ≡ true → is_open r ≡ true)
    → open_count (set rs id new) ≤ open_count rs
open_set [] id r new was stays = omega arith
open_set (x ∷ rs) zero r new was stays =
    omega (
      arith,
      counts (is_open new) new (filter is_open rs),
      counts (is_open x) x (filter is_open rs),
      no_more (is_open new) (is_open x) (λ e. ap is_open (sym was) ∙ stays e),
    )
open_set (x ∷ rs) (suc id) r new was stays =
    omega (arith, counts (is_open x) x (filter is_open rs), counts (is_open x) x (filter is_open (set rs id new)), open_set rs id r new was stays)

-- ---- a state with other records

-- each entry that a session has taken another has too
abbrev pub Keeps : Walk → Walk → Type 0
Keeps old new = (e : Entry) → HasTaken old e → HasTaken new e

-- the state with one record more, of the next number
abbrev pub with_record : State → Record → State
with_record s r = record s { records = s.records ++ r ∷ []; next_session = s.next_session + 1 }

recorded_right : (s : State) (r : Record) → IsRight s → length s.records < 1024 → open_count s.records < 64 → r.number ≡ s.next_session
    → IsKept s.store.config s.store.entries r → IsRight (with_record s r)
recorded_right s r ok room beside number kept = record {
  store = ok.store;
  records = all-push (IsKept s.store.config s.store.entries) s.records r ok.records kept;
  few = omega (arith, room, length-append s.records (r ∷ []));
  few_open = omega (arith, beside, open_push s.records r);
  numbers = numbered_push s.next_session s.records r ok.numbers number;
  partners = All-weaker _ _ s.store.entries
      (λ e from source. any-append (λ (x : Record). HasTaken x.session e) s.records (r ∷ []) (from source)) ok.partners;
  settled = ok.settled;
  moment = ok.moment;
}

-- A record that can stand in the place of another while a store has these entries: it has the same number, is open only
-- if the other was, and its session has all that the other's took.
pub record Replaces (s : State) (entries : List Entry) (id : ℕ) (old new : Record) : Type 0 where
  pub was : old ≡ get_or s.records id old
  pub number : new.number ≡ old.number
  pub stays : is_open new ≡ true → is_open old ≡ true
  pub kept : IsKept s.store.config entries new
  pub keeps : Keeps old.session new.session

-- entries more, and a record in the place of another
pub stepped_right : (s : State) (t : Store) (more : List Entry) (id : ℕ) (r new : Record) → IsRight s → IsSound t → t.config ≡ s.store.config
    → t.entries ≡ s.store.entries ++ more → Replaces s (s.store.entries ++ more) id r new
    → AllByRecursion (λ (e : Entry). Any (λ (x : Record). HasTaken x.session e) (set s.records id new)) more
    → IsRight (record {
      store = t;
      records = set s.records id new;
      moment = s.moment;
      whole_before = s.whole_before;
      next_session = s.next_session;
      settled = s.settled;
    })
stepped_right s t more id r new ok sound config entries replaces come =
    let records = set s.records id new in
    let all = all-set (IsKept s.store.config (s.store.entries ++ more)) s.records id new replaces.kept
    (all_kept s.store.config s.store.entries more s.records ok.records) in
    record {
      store = sound;
      records = subst (λ (c : Config). AllByRecursion (IsKept c t.entries) records) (sym config)
          (subst (λ (es : List Entry). AllByRecursion (IsKept s.store.config es) records) (sym entries) all);
      few = omega (arith, ok.few, length-set s.records id new);
      few_open = omega (arith, ok.few_open, open_set s.records id r new replaces.was replaces.stays);
      numbers = numbered_set s.next_session s.records id r new ok.numbers replaces.was replaces.number;
      partners = subst (AllByRecursion (λ (e : Entry). e.source ≡ Partner → Any (λ (x : Record). HasTaken x.session e) records)) (sym entries)
          (all-append _ s.store.entries more
          (All-weaker _ _ s.store.entries
          (λ e from source. any-set (λ (x : Record). HasTaken x.session e) s.records id r new replaces.was (replaces.keeps e) (from source))
          ok.partners)
          (All-weaker _ _ more (λ e is source. is) come));
      settled = subst (IsSettled s.settled) (sym entries) (settled_grows s.settled s.store.entries more ok.settled);
      moment = moment_grows s.store t more s.moment config entries ok.moment;
    }

-- a record in the place of another
pub replaced_right : (s : State) (id : ℕ) (r new : Record) → IsRight s → Replaces s s.store.entries id r new
    → IsRight (record s { records = set s.records id new })
replaced_right s id r new ok replaces = record {
  store = ok.store;
  records = all-set (IsKept s.store.config s.store.entries) s.records id new replaces.kept ok.records;
  few = omega (arith, ok.few, length-set s.records id new);
  few_open = omega (arith, ok.few_open, open_set s.records id r new replaces.was replaces.stays);
  numbers = numbered_set s.next_session s.records id r new ok.numbers replaces.was replaces.number;
  partners = All-weaker _ _ s.store.entries
      (λ e from source. any-set (λ (x : Record). HasTaken x.session e) s.records id r new replaces.was (replaces.keeps e) (from source)) ok.partners;
  settled = ok.settled;
  moment = ok.moment;
}

-- ---- opening

-- one more on both sides, or on none
one_more : (b : Bool) (r : Record) (rs : List Record) (x : SessionState) (xs : List SessionState) → length xs ≡ length rs
    → length (if b then x ∷ xs else xs) ≡ length (if b then r ∷ rs else rs)
one_more true r rs x xs same = ap suc same
one_more false r rs x xs same = same

-- open sessions are counted by how they stand
pub open_states : (rs : List Record) → length (filter is_open_state (standings rs)) ≡ open_count rs
unfolding is_open
open_states [] = refl
open_states (r ∷ rs) = one_more (is_open_state r.session.state) r (filter is_open rs) r.session.state (filter is_open_state (standings rs))
    (open_states rs)

pub as_many : (rs : List Record) → length (standings rs) ≡ length rs
as_many rs = length-map rs (λ (r : Record). r.session.state)

-- the same of the records themselves
pub crowd_by : (rs : List Record)
    → crowd_fault (standings rs) ≡ (if nat_le 64 (open_count rs) || nat_le 1024 (length rs) then Some SessionsFull else None)
crowd_by rs = λ i. if nat_le 64 (open_states rs i) || nat_le 1024 (as_many rs i) then Some SessionsFull else None

-- where a session can be opened, there is room for a record, and for an open session
pub room_of : (rs : List Record) → crowd_fault (standings rs) ≡ None → (length rs < 1024) × (open_count rs < 64)
room_of rs h =
    let tests = or_parts (nat_le 64 (length (filter is_open_state (standings rs)))) (nat_le 1024 (length (standings rs)))
    (no_fault _ SessionsFull h) in (
      below 1024 (length (standings rs)) (length rs) (as_many rs) tests.1,
      below 64 (length (filter is_open_state (standings rs))) (open_count rs)
          (open_states rs) tests.0,
    )
  where
    below : (most n m : ℕ) → n ≡ m → nat_le most n ≡ false → m < most
    below most n m same off = elim (cases_lt m most) [
      | inl room ↦ room
      | inr full ↦ absurd (both_ways (nat_le most n) off (le-leb most n (omega (arith, full, same))))
    ]

-- a session that is not open has nothing left
pub none_left : (nodes : List Node) → state_by nodes ≢ Open → nodes ≡ []
none_left [] off = refl
none_left (n ∷ nodes) off = absurd (off refl)

-- a session with rows of the range that are held
begun_right : (s : State) (partner : ℕ) (root : List ℕ) (own : RowMap) (r : Record) → IsRight s
    → (length s.records < 1024) × (open_count s.records < 64) → IsRowMap own
    → (own.format ≡ s.store.config.format) × (own.bits ≡ s.store.config.bits) × (own.range ≡ s.store.config.range)
    → Held own.rows (held s.store.entries) → r ≡ record { number = s.next_session; partner = partner; session = started own root }
    → IsRight (with_record s r)
begun_right s partner root own r ok room map here rows is =
    let walked = walked_started (held s.store.entries) own root map rows in
    let orderly = orderly_started own root in
    let kept : IsKept s.store.config s.store.entries (record { number = s.next_session; partner = partner; session = started own root }) = record {
      here = record { bits = here.1; range = here.2 };
      format = λ opened. here.0;
      traced = traced (held s.store.entries) (started own root) walked orderly;
      ended = none_left (first_asked own root);
      going = inr (record { walked = walked; orderly = orderly });
    } in
    recorded_right s r ok room.0 room.1 (ap (λ (x : Record). x.number) is) (subst (IsKept s.store.config s.store.entries) (sym is) kept)

-- a session with the rows now
pub opened_right : (s : State) (partner : ℕ) (root : List ℕ) (r : Record) → IsRight s → (length s.records < 1024) × (open_count s.records < 64)
    → r ≡ record { number = s.next_session; partner = partner; session = started (rows_now s.store) root } → IsRight (with_record s r)
opened_right s partner root r ok room is = begun_right s partner root (rows_now s.store) r ok room (row_map_now s.store ok.store) (refl, refl, refl)
    (rows_held s.store.entries) is

-- a session with the rows of a moment
pub opened_at_right : (s : State) (m : Moment) (partner : ℕ) (root : List ℕ) (r : Record) → IsRight s → IsMomentOf s.store m
    → (length s.records < 1024) × (open_count s.records < 64)
    → r ≡ record { number = s.next_session; partner = partner; session = started (rows_at s.store m.front) root } → IsRight (with_record s r)
opened_at_right s m partner root r ok moment room is =
    begun_right s partner root (rows_at s.store m.front) r ok room (subst IsRowMap moment.rows moment.right.rows) (refl, refl, refl)
    (held_at s.store m.front) is

-- a session at the moment, if it is whole
pub opened_when_whole : (s : State) (partner : ℕ) (root : List ℕ) (r : Record) → IsRight s → moment_fault s.moment ≡ None
    → (length s.records < 1024) × (open_count s.records < 64)
    → r ≡ record { number = s.next_session; partner = partner; session = started (rows_at s.store (front_of s.moment)) root }
    → IsRight (with_record s r)
opened_when_whole s partner root r ok whole room is = by_moment s.moment ok.moment whole is
  where
    by_moment : (o : Option Moment) → IfSome o (IsMomentOf s.store) → moment_fault o ≡ None
        → r ≡ record { number = s.next_session; partner = partner; session = started (rows_at s.store (front_of o)) root } → IsRight (with_record s r)
    by_moment None moment whole is = absurd (cc)
    by_moment (Some m) moment whole is = opened_at_right s m partner root r ok moment room is

-- ---- ending

pub kept_cancelled : (c : Config) (es : List Entry) (r : Record) (w : Walk) (st : SessionState) → w.state ≡ st
    → IsKept c es (record { number = r.number; partner = r.partner; session = w })
    → IsKept c es (record { number = r.number; partner = r.partner; session = cancelled_by w st })
kept_cancelled c es r w Open is kept = record {
  here = record { bits = kept.here.bits; range = kept.here.range };
  format = λ off. kept.format is;
  traced = traced_cancelled w Open kept.traced;
  ended = λ off. refl;
  going = inl (inr refl);
}
kept_cancelled c es r w Finished is kept = kept
kept_cancelled c es r w Failed is kept = kept
kept_cancelled c es r w Cancelled is kept = kept

pub keeps_cancelled : (w : Walk) (st : SessionState) → Keeps w (cancelled_by w st)
keeps_cancelled w Open = λ e a. a
keeps_cancelled w Finished = λ e a. a
keeps_cancelled w Failed = λ e a. a
keeps_cancelled w Cancelled = λ e a. a

-- a session that is open after it was cancelled was open before
still_open : (r : Record) (w : Walk) (st : SessionState)
    → is_open (record { number = r.number; partner = r.partner; session = cancelled_by w st }) ≡ true
    → is_open (record { number = r.number; partner = r.partner; session = w }) ≡ true
unfolding is_open
still_open r w Open e = absurd (let clash : false ≡ true = e in cc)
still_open r w Finished e = e
still_open r w Failed e = e
still_open r w Cancelled e = e

pub cancelled_right : (s : State) (id : ℕ) (r new : Record) → IsRight s → id < length s.records → r ≡ get_or s.records id r
    → new ≡ record { number = r.number; partner = r.partner; session = cancelled_by r.session r.session.state }
    → IsRight (record s { records = set s.records id new })
cancelled_right s id r new ok within was is =
    let kept = subst (IsKept s.store.config s.store.entries) (sym was)
    (all_get (IsKept s.store.config s.store.entries) s.records id r ok.records within) in
    let over = kept_cancelled s.store.config s.store.entries r r.session r.session.state refl kept in
    subst (λ (x : Record). IsRight (record s { records = set s.records id x })) (sym is)
    (replaced_right s id r (record { number = r.number; partner = r.partner; session = cancelled_by r.session r.session.state }) ok
    (record {
      was = was;
      number = refl;
      stays = still_open r r.session r.session.state;
      kept = over;
      keeps = keeps_cancelled r.session r.session.state;
    }))
