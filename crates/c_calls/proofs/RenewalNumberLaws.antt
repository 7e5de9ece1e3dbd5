-- After a renewal beside the puts the entries since the moment have their numbers.
use Rattle.std.proofs.Common.{◌≡◌, ℕ, ◌+◌, ◌-◌, ◌<◌, ◌≤◌, cond, Some, None, List, [], ◌∷◌, ◌++◌, length, take, drop, slice_get, refl, sym, ap, ◌∙◌}
use Rattle.std.proofs.Common.{arith}
use Rattle.std.specs.Prelude.{Bool, nat_lt, nat_le, if◌then◌else◌}
use Rattle.std.proofs.lemmas.Bool.{and_parts, leb-true, le-ltb}
use Rattle.std.proofs.lemmas.List.{length-drop, length-take, take_all}
use Rattle.std.proofs.lemmas.List.Folds.{drop_split}
use Rattle.std.proofs.lemmas.Option.{slice_get_within}
use Rattle.vclock.specs.declared.refusal.Refusal.TheVariants.{Stale}
use Rattle.range_journal.specs.declared.journal.Entry.{Entry}
use Rattle.range_journal.specs.declared.journal.Source.TheVariants.{Copy}
use Rattle.row_bytes.proofs.LimitLaws.{no_fault_else}
use Rattle.range_store.specs.Renewals.{offers_by_leaf}
use Rattle.range_store.specs.Store.{Store}
use Rattle.range_store.proofs.RenewLaws.{held_within, length-copies}
use Rattle.range_state.specs.CatchUps.{Renewing, start_at, begun_from, renewing_from, begun_count, caught_up, is_same_place, with_copy}
use Rattle.range_state.specs.CatchUps.{with_copies_of}
use Rattle.range_state.specs.declared.moment.Moment.{Moment}
use Rattle.range_state.specs.State.{State, rows_at}
use Rattle.range_state.proofs.CaughtUpLaws.{caught_number}
use Rattle.c_calls.specs.Kept.{KeptState, entry_at, entries_in}
use Rattle.c_calls.specs.KeptRenewals.{HasCaughtUp, IsRenewedBy}
use Rattle.c_calls.proofs.RenewalLaws.{copies_len}

pub begins : (s : State) (m : Moment) (limit : ℕ) → HasCaughtUp (renewing_from (start_at s m) 0 limit) s m limit 0
begins s m limit = record { store = refl; began = refl; front = omega arith }

copies_append : (s : Store) (seat : ℕ) (xs ys : List Entry) → with_copies_of s seat (xs ++ ys) ≡ with_copies_of (with_copies_of s seat xs) seat ys
copies_append s seat [] ys = refl
copies_append s seat (x ∷ xs) ys = copies_append (with_copy s seat x) seat xs ys

-- the entries that are left make it whole
all_here : (r : Renewing) (s : State) (m : Moment) (limit n : ℕ) → HasCaughtUp r s m limit n
    → with_copies_of r.state.store 0 (drop r.front s.store.entries) ≡ caught_up s m 0 limit (length s.store.entries - m.front)
all_here r s m limit n has =
    let es = s.store.entries in
    let first = (begun_from (start_at s m) 0 limit).store in
    let some : (m.front + n) - m.front ≡ n = omega arith in
    let split : drop m.front es ≡ take n (drop m.front es) ++ drop (m.front + n) es =
    drop_split es m.front (m.front + n) (omega arith) ∙ ap (λ (k : ℕ). take k (drop m.front es) ++ drop (m.front + n) es) some in
    let all : take (length es - m.front) (drop m.front es) ≡ drop m.front es = take_all (length es - m.front) (drop m.front es)
    (omega (arith, length-drop m.front es)) in
    (λ i. with_copies_of (has.store i) 0 (drop (has.front i) es))
    ∙ sym (copies_append first 0 (take n (drop m.front es)) (drop (m.front + n) es))
    ∙ ap (λ (xs : List Entry). with_copies_of first 0 xs) (sym split ∙ sym all)

-- the number of its entries
count_all : (s : State) (m : Moment) (limit : ℕ)
    → length (caught_up s m 0 limit (length s.store.entries - m.front)).entries ≡ begun_count s m + (length s.store.entries - m.front)
count_all s m limit =
    let es = s.store.entries in
    let rest = drop m.front es in
    omega (
      arith,
      copies_len (begun_from (start_at s m) 0 limit).store 0 (take (length es - m.front) rest),
      length-copies 0 0 (offers_by_leaf s.store.config (rows_at s.store m.front).rows),
      length-take (length es - m.front) rest,
      length-drop m.front es,
    )

begun_few : (s : State) (m : Moment) → begun_count s m ≤ m.front
begun_few s m = omega (arith, held_within (record s.store { entries = take m.front s.store.entries }), length-take m.front s.store.entries)

-- what the new replica is
record IsRenewedAt (k l : KeptState) (m : Moment) (limit : ℕ) : Type 0 where
  pub store : l.state.store ≡ caught_up k.state m 0 limit (length k.state.store.entries - m.front)
  pub first : l.first ≡ entries_in k - length (caught_up k.state m 0 limit (length k.state.store.entries - m.front)).entries
  pub renewed : l.renewed ≡ k.first + m.front

renewed_at : (r : Renewing) (k l : KeptState) (m : Moment) (limit n : ℕ) → HasCaughtUp r k.state m limit n → IsRenewedBy r k l
    → IsRenewedAt k l m limit
renewed_at r k l m limit n has is =
    let store = ap (λ (t : State). t.store) is.0.2 ∙ all_here r k.state m limit n has in
    record {
      store = store;
      first = ap (λ (x : KeptState). x.first) is.1 ∙ ap (λ (s : Store). entries_in k - length s.entries) store;
      renewed = ap (λ (x : KeptState). x.renewed) is.1 ∙ ap (λ (b : ℕ). k.first + b) has.began;
    }

-- the last entry has the last number that was used
pub keeps_last : (r : Renewing) (k l : KeptState) (m : Moment) (limit n : ℕ) → HasCaughtUp r k.state m limit n → IsRenewedBy r k l
    → entries_in l ≡ entries_in k
keeps_last r k l m limit n has is =
    let es = k.state.store.entries in
    let new = renewed_at r k l m limit n has is in
    let tests = and_parts (is_same_place r.state.store.config k.state.store.config) (nat_le r.front (length es)) (no_fault_else _ Stale is.0.0) in
    omega (
      arith,
      new.first,
      ap (λ (s : Store). length s.entries) new.store,
      count_all k.state m limit,
      begun_few k.state m,
      has.front,
      leb-true r.front (length es) tests.1,
    )

from_first : (es : List Entry) (first number : ℕ) → first ≤ number
    → (if nat_lt number first then None else slice_get es (number - first)) ≡ slice_get es (number - first)
from_first es first number late = ap (λ (b : Bool). cond b None (slice_get es (number - first))) (le-ltb number first late)

-- an entry since the moment has its number
pub keeps_number : (r : Renewing) (k l : KeptState) (m : Moment) (limit n : ℕ) → HasCaughtUp r k.state m limit n → IsRenewedBy r k l
    → (number : ℕ) (e : Entry) → l.renewed ≤ number → entry_at k number ≡ Some e
    → entry_at l number ≡ Some (record { number = number - l.first; seat = 0; source = Copy; key = e.key; version = e.version })
keeps_number r k l m limit n has is number e late here =
    let es = k.state.store.entries in
    let new = renewed_at r k l m limit n has is in
    let all = count_all k.state m limit in
    let few = begun_few k.state m in
    let at : slice_get es (number - k.first) ≡ Some e = sym (from_first es k.first number (omega (arith, late, new.renewed))) ∙ here in
    let less = slice_get_within es (number - k.first) e at in
    let i = number - k.first - m.front in
    let place : m.front + i ≡ number - k.first = omega (arith, late, new.renewed) in
    let there = caught_number k.state m 0 limit (length es - m.front) i e (omega (arith, less, late, new.renewed))
    (ap (λ (j : ℕ). slice_get es j) place ∙ at) in
    let first : l.first ≤ number = omega (arith, new.first, all, late, new.renewed, few) in
    let now : number - l.first ≡ begun_count k.state m + i = omega (arith, new.first, all, late, new.renewed, few, less) in
    from_first l.state.store.entries l.first number first
    ∙ (λ i. slice_get (new.store i).entries (now i))
    ∙ there
    ∙ ap (λ (j : ℕ). Some (record { number = j; seat = 0; source = Copy; key = e.key; version = e.version })) (sym now)
