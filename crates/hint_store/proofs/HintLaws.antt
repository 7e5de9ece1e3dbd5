-- Laws of numbered hints.
use Rattle.std.proofs.Common.{◌≡◌, ℕ, zero, suc, ◌+◌, ◌-◌, ◌<◌, ◌≤◌, ◌^◌, ◌↔◌, Bool, true, false, ◌&&◌, ◌||◌, cond, leb, List, [], ◌∷◌, ◌++◌, length}
use Rattle.std.proofs.Common.{get_or, set, take, min, Option, Some, None, refl, ap, sym, subst, ◌∙◌, inl, inr, arith, add-zero, length-set}
use Rattle.std.proofs.Common.{get_or-set_same, Any}
use Rattle.std.specs.Prelude.{nat_eq, nat_lt, slice_get, find, MatchOption}
use Rattle.std.specs.List.{list_any}
use Rattle.std.specs.Option.{option_map, option_and_then}
use Rattle.std.specs.Str.{bytes_eq}
use Rattle.std.proofs.lemmas.Bool.{and_parts, and_from, cases_Bool, cases_eq, eqb-true, ne_eqb, eq-eqb, lt-ltb, le-ltb, le-leb, lt-leb, cases_lt}
use Rattle.std.proofs.lemmas.Bool.{false_from_ne_true, both_ways}
use Rattle.std.proofs.lemmas.List.Folds.{find_at, Any-from_list_any, list_any_at, list_any-from_Any, list_any-append}
use Rattle.std.proofs.lemmas.List.Sums.{position_or_len_is}
use Rattle.std.proofs.lemmas.Option.{slice_get-get_or, same_Some, slice_get_within, get_or_from_slice_get}
use Rattle.std.proofs.lemmas.List.{take_more}
use Rattle.std.proofs.lemmas.Slice.Eq.{bytes_eq-Decides}
use Rattle.std.proofs.lemmas.Cmp.{tied_itself}
use Rattle.std.specs.Ordering.{is_eq}
use Rattle.version_set.proofs.SetLaws.{version_total, is_same-exact}
use Rattle.version_set.specs.declared.version.Version.{Version}
use Rattle.version_set.specs.Version.{is_same}
use Rattle.vclock.proofs.BoolLaws.{and-true}
use Rattle.vclock.specs.Outcome.{Outcome, gives, refuses}
use Rattle.vclock.specs.declared.refusal.Refusal.TheVariants.{HintsFull, UnknownHint}
use Rattle.hint_store.specs.declared.hint.Hint.{Hint}
use Rattle.hint_store.specs.declared.hint.Delivery.{Delivery}
use Rattle.hint_store.specs.declared.hint.Fate.{Fate}
use Rattle.hint_store.specs.declared.hint.Fate.TheVariants.{Pending, Taken, Known}
use Rattle.hint_store.specs.declared.hint.Kept.{Kept}
use Rattle.hint_store.specs.Waits.{earliest}
use Rattle.hint_store.specs.Hints.{is_undelivered, is_pending, pending_count, HaveIdsFrom, kept_at, keep_fault, is_due, next_hint, delivers_hint}
use Rattle.hint_store.specs.Hints.{is_answered, IsAnswered, fate_of, answered, confirm, confirmed, closed, owner_answer, delivery_of, delivery_by}
use Rattle.hint_store.specs.Hints.{waiting_owner, settle, settled_at}

pub get_or_same : {X : Type 0} (xs : List X) (i : ℕ) (d e : X) → i < length xs → get_or xs i d ≡ get_or xs i e
get_or_same xs i d e h = same_Some (get_or xs i d) (get_or xs i e) (sym (slice_get-get_or xs i d h) ∙ slice_get-get_or xs i e h)

-- the hint at a place has the number of the place
pub id_at : (n : ℕ) (hints : List Kept) (j : ℕ) (d : Kept) → HaveIdsFrom n hints → j < length hints → (get_or hints j d).hint.id ≡ n + j
id_at n [] j d a h = absurd (omega arith)
id_at n (k ∷ ks) zero d a h = a.0 ∙ sym (add-zero n)
id_at n (k ∷ ks) (suc j) d a h = let e = id_at (n + 1) ks j d a.1 (omega arith) in omega (arith, e)

pub AreNumberedFrom-push : (n : ℕ) (ks : List Kept) (k : Kept) → HaveIdsFrom n ks → k.hint.id ≡ n + length ks → HaveIdsFrom n (ks ++ k ∷ [])
AreNumberedFrom-push n [] k all is = (is ∙ add-zero n, tt)
AreNumberedFrom-push n (x ∷ ks) k all is = (all.0, AreNumberedFrom-push (n + 1) ks k all.1 (omega arith))

-- the hint of a number, if there is one
kept_above : (hints : List Kept) (id : ℕ) → 1 ≤ id → kept_at hints id ≡ slice_get hints (id - 1)
kept_above hints id h = ap (λ b. cond b None (slice_get hints (id - 1))) (ne_eqb id 0 (λ e. omega arith))

pub kept_some : (hints : List Kept) (id : ℕ) (k : Kept) → kept_at hints id ≡ Some k
    → (1 ≤ id) × (id - 1 < length hints) × (get_or hints (id - 1) k ≡ k)
kept_some hints id k e = elim (cases_eq id 0) [
  | inl z ↦ absurd (let f : None ≡ Some k = ap (λ b. cond b None (slice_get hints (id - 1))) (sym (eq-eqb id 0 z)) ∙ e in cc)
  | inr n ↦
      let over : 1 ≤ id = omega arith in
      let there : slice_get hints (id - 1) ≡ Some k = sym (kept_above hints id over) ∙ e in
      (over, slice_get_within hints (id - 1) k there, get_or_from_slice_get hints (id - 1) k k there)
]

pub kept_there : (hints : List Kept) (id : ℕ) (d : Kept) → 1 ≤ id → id - 1 < length hints → kept_at hints id ≡ Some (get_or hints (id - 1) d)
kept_there hints id d over h = kept_above hints id over ∙ slice_get-get_or hints (id - 1) d h

pub kept_none : (hints : List Kept) (id j : ℕ) (d : Kept) → kept_at hints id ≡ None → id ≡ 1 + j → j < length hints → ⊥
kept_none hints id j d e is h =
    let over : 1 ≤ id = omega arith in
    let inside : id - 1 < length hints = omega arith in
    let f : None ≡ Some (get_or hints (id - 1) d) = sym e ∙ kept_there hints id d over inside in
    cc

-- a test that only the hint of one number passes
pub any_at_place : (t : Kept → Bool) (n i j : ℕ) (hints : List Kept) (d : Kept) → ((k : Kept) → t k ≡ true → k.hint.id ≡ i) → HaveIdsFrom n hints
    → i ≡ n + j → j < length hints → list_any t hints ≡ t (get_or hints j d)
any_at_place t n i j hints d one a is h =
    elim (cases_Bool (t (get_or hints j d))) [
      | inl passes ↦ list_any_at t hints j d h passes ∙ sym passes
      | inr fails ↦ false_from_ne_true (list_any t hints) (λ e.
          let found = Any-from_list_any t hints e in
          let number : found.1.hint.id ≡ n + found.0 = ap (λ (k : Kept). k.hint.id) (sym found.3) ∙ id_at n hints found.0 found.1 a found.2 in
          let same : found.0 ≡ j = omega (arith, one found.1 found.4) in
          let passed : t (get_or hints j d) ≡ true = ap t (get_or_same hints j d found.1 h ∙ ap (λ m. get_or hints m found.1) (sym same) ∙ found.3)
          ∙ found.4 in
          both_ways _ fails passed) ∙ sym fails
    ]

pub any_nowhere : (t : Kept → Bool) (i : ℕ) (hints : List Kept) → ((k : Kept) → t k ≡ true → k.hint.id ≡ i) → HaveIdsFrom 1 hints
    → kept_at hints i ≡ None → list_any t hints ≡ false
any_nowhere t i hints one a none = false_from_ne_true (list_any t hints) (λ e.
    let found = Any-from_list_any t hints e in
    let number : found.1.hint.id ≡ 1 + found.0 = ap (λ (k : Kept). k.hint.id) (sym found.3) ∙ id_at 1 hints found.0 found.1 a found.2 in
    kept_none hints i found.0 found.1 none (omega (arith, one found.1 found.4)) found.2)

pub answered-id : (id : ℕ) (d : Delivery) (k : Kept) → is_answered id d k ≡ true → k.hint.id ≡ id
answered-id id d k e = eqb-true k.hint.id id
    (and_parts (is_pending k) (nat_eq k.hint.id id) (and_parts (is_pending k && nat_eq k.hint.id id) (delivers_hint d k.hint) e).0).1

pub awaits_some : (hints : List Kept) (id : ℕ) (d : Delivery) (k : Kept) → HaveIdsFrom 1 hints → Some k ≡ kept_at hints id
    → list_any (is_answered id d) hints ≡ (is_undelivered k.fate && delivers_hint d k.hint)
awaits_some hints id d k a e =
    let there = kept_some hints id k (sym e) in
    let number : k.hint.id ≡ id = let n = id_at 1 hints (id - 1) k a there.1 in ap (λ (x : Kept). x.hint.id) (sym there.2) ∙ n
    ∙ omega (arith, there.0) in
    any_at_place (is_answered id d) 1 id (id - 1) hints k (answered-id id d) a (omega (arith, there.0)) there.1
    ∙ (ap (is_answered id d) there.2
    ∙ (ap (λ b. (is_undelivered k.fate && b) && delivers_hint d k.hint) (eq-eqb k.hint.id id number)
    ∙ ap (λ b. b && delivers_hint d k.hint) (and-true (is_undelivered k.fate))))

pub awaits_none : (hints : List Kept) (id : ℕ) (d : Delivery) → HaveIdsFrom 1 hints → None ≡ kept_at hints id
    → list_any (is_answered id d) hints ≡ false
awaits_none hints id d a e = any_nowhere (is_answered id d) id hints (answered-id id d) a (sym e)

-- the first hint that passes a test
pub find_first : (q : Kept → Bool) (hints : List Kept) (j : ℕ) (d : Kept) → j < length hints → q (get_or hints j d) ≡ true
    → ((k : ℕ) → k < j → q (get_or hints k d) ≡ false) → find q hints ≡ Some (get_or hints j d)
find_first q hints j d h passes before =
    find_at q hints ∙ (ap (slice_get hints) (position_or_len_is q hints j d (omega arith) before (λ _. passes)) ∙ slice_get-get_or hints j d h)

pub find_none : (q : Kept → Bool) (hints : List Kept) → ((k : ℕ) (d : Kept) → k < length hints → q (get_or hints k d) ≡ false) → find q hints ≡ None
find_none q [] fails = refl
find_none q (x ∷ hints) fails = rw (fails 0 x (omega arith)) (find_none q hints (λ k d h. fails (suc k) d (omega arith)))

-- the first that passes a test: where it stands
find_some : (q : Kept → Bool) (hints : List Kept) (k : Kept) → find q hints ≡ Some k → (j : ℕ) × (j < length hints) × (get_or hints j k ≡ k)
find_some q hints k e =
    let there : slice_get hints _ ≡ Some k = sym (find_at q hints) ∙ e in
    (_, slice_get_within hints _ k there, get_or_from_slice_get hints _ k k there)

-- the hint of the number of a hint that was found is that hint
pub found_again : (q : Kept → Bool) (hints : List Kept) → HaveIdsFrom 1 hints
    → option_and_then (kept_at hints) (option_map (λ h. h.id) (option_map (λ k. k.hint) (find q hints))) ≡ find q hints
found_again q hints a =
    elim (find q hints) as (λ o. find q hints ≡ o → option_and_then (kept_at hints) (option_map (λ h. h.id) (option_map (λ k. k.hint) o)) ≡ o) [
      | None ↦ λ e. refl
      | Some k ↦ λ e.
          let there = find_some q hints k e in
          let number : k.hint.id ≡ 1 + there.0 = ap (λ (x : Kept). x.hint.id) (sym there.2) ∙ id_at 1 hints there.0 k a there.1 in
          let place : k.hint.id - 1 ≡ there.0 = omega arith in
          kept_there hints k.hint.id k (omega arith) (omega arith) ∙ ap (λ x. Some x) (ap (λ j. get_or hints j k) place ∙ there.2)
    ] refl

-- the number of the first hint that passes one of two tests is the earliest of the numbers
ids_above : (q : Kept → Bool) (n : ℕ) (hints : List Kept) (k : Kept) → HaveIdsFrom n hints → find q hints ≡ Some k → n ≤ k.hint.id
ids_above q n hints k a e =
    let there = find_some q hints k e in
    let number : k.hint.id ≡ n + there.0 = ap (λ (x : Kept). x.hint.id) (sym there.2) ∙ id_at n hints there.0 k a there.1 in
    omega arith

-- the number of a hint that was found
abbrev pub ids : Option Kept → Option ℕ
ids o = option_map (λ h. h.id) (option_map (λ k. k.hint) o)

first_lesser : (q : Kept → Bool) (n m : ℕ) (hints : List Kept) → HaveIdsFrom n hints → m < n → earliest (Some m) (ids (find q hints)) ≡ Some m
first_lesser q n m hints a h = elim (find q hints) as (λ o. find q hints ≡ o → earliest (Some m) (ids o) ≡ Some m) [
  | None ↦ λ e. refl
  | Some k ↦ λ e. let over = ids_above q n hints k a e in ap (λ x. Some x) (let low : min m k.hint.id ≡ m = omega arith in low)
] refl

last_lesser : (q : Kept → Bool) (n m : ℕ) (hints : List Kept) → HaveIdsFrom n hints → m < n → earliest (ids (find q hints)) (Some m) ≡ Some m
last_lesser q n m hints a h = elim (find q hints) as (λ o. find q hints ≡ o → earliest (ids o) (Some m) ≡ Some m) [
  | None ↦ λ e. refl
  | Some k ↦ λ e. let over = ids_above q n hints k a e in ap (λ x. Some x) (let low : min k.hint.id m ≡ m = omega arith in low)
] refl

lesser_find : (p r q : Kept → Bool) → ((k : Kept) → q k ≡ (p k || r k)) → (n : ℕ) (hints : List Kept) → HaveIdsFrom n hints
    → ids (find q hints) ≡ earliest (ids (find p hints)) (ids (find r hints))
lesser_find p r q same n [] a = refl
lesser_find p r q same n (k ∷ ks) a =
    ap (λ b. ids (cond b (Some k) (find q ks))) (same k)
    ∙ by_tests (p k) (r k) (lesser_find p r q same (n + 1) ks a.1) (first_lesser r (n + 1) k.hint.id ks a.1 (omega (arith, a.0)))
    (last_lesser p (n + 1) k.hint.id ks a.1 (omega (arith, a.0)))
  where
    by_tests : (b c : Bool) → ids (find q ks) ≡ earliest (ids (find p ks)) (ids (find r ks))
        → earliest (Some k.hint.id) (ids (find r ks)) ≡ Some k.hint.id → earliest (ids (find p ks)) (Some k.hint.id) ≡ Some k.hint.id
        → ids (cond (b || c) (Some k) (find q ks)) ≡ earliest (ids (cond b (Some k) (find p ks))) (ids (cond c (Some k) (find r ks)))
    by_tests true true rest one two = ap (λ x. Some x) (let both : k.hint.id ≡ min k.hint.id k.hint.id = omega arith in both)
    by_tests true false rest one two = sym one
    by_tests false true rest one two = sym two
    by_tests false false rest one two = rest

-- the next hint of one owner more
pub next_push : (owners : List ℕ) (o after : ℕ) (hints : List Kept) → HaveIdsFrom 1 hints
    → ids (find (is_due (owners ++ o ∷ []) after) hints) ≡ earliest (ids (find (is_due owners after) hints))
    (ids (find (is_due (o ∷ []) after) hints))
next_push owners o after hints a =
    lesser_find (is_due owners after) (is_due (o ∷ []) after) (is_due (owners ++ o ∷ []) after)
    (λ k. ap (λ b. (is_pending k && nat_lt after k.hint.id) && b) (list_any-append (nat_eq k.hint.owner) owners (o ∷ []))
    ∙ spread (is_pending k && nat_lt after k.hint.id) (list_any (nat_eq k.hint.owner) owners) (list_any (nat_eq k.hint.owner) (o ∷ [])))
    1 hints a
  where
    spread : (a b c : Bool) → (a && (b || c)) ≡ ((a && b) || (a && c))
    spread true b c = refl
    spread false b c = refl

-- no hint is due to no owner
pub no_owners : (after : ℕ) (hints : List Kept) → None ≡ ids (find (is_due [] after) hints)
no_owners after hints = ap ids
    (sym (find_none (is_due [] after) hints (λ k d h. and-false (is_pending (get_or hints k d) && nat_lt after (get_or hints k d).hint.id))))
  where
    and-false : (b : Bool) → (b && false) ≡ false
    and-false true = refl
    and-false false = refl

-- at a step of a loop over owners
pub next_more : (owners : List ℕ) (i d after : ℕ) (hints : List Kept) → HaveIdsFrom 1 hints → i < length owners
    → ids (find (is_due (take (i + 1) owners) after) hints) ≡ earliest (ids (find (is_due (take i owners) after) hints))
    (ids (find (is_due (get_or owners i d ∷ []) after) hints))
next_more owners i d after hints a h =
    ap (λ os. ids (find (is_due os after) hints)) (take_more owners i d h) ∙ next_push (take i owners) (get_or owners i d) after hints a

-- the copy of the next hint
pub next_found : (owners : List ℕ) (after : ℕ) (hints : List Kept) (id : Option ℕ) → HaveIdsFrom 1 hints → id ≡ ids (find (is_due owners after) hints)
    → option_map (λ k. k.hint) (option_and_then (kept_at hints) id) ≡ next_hint owners after hints
next_found owners after hints id a is =
    ap (λ i. option_map (λ k. k.hint) (option_and_then (kept_at hints) i)) is
    ∙ ap (λ o. option_map (λ k. k.hint) o) (found_again (is_due owners after) hints a)

pub open_pending : (f : Fate) → is_undelivered f ≡ true → f ≡ Pending
open_pending Pending e = refl
open_pending Taken e = cc
open_pending Known e = cc

answered_is : (id : ℕ) (d : Delivery) (k : Kept) → is_answered id d k ≡ true → IsAnswered id d k
answered_is id d k t =
    let parts = and_parts (is_pending k && nat_eq k.hint.id id) (delivers_hint d k.hint) t in
    let front = and_parts (is_pending k) (nat_eq k.hint.id id) parts.0 in
    let of = and_parts (nat_eq k.hint.owner d.owner && bytes_eq k.hint.key d.key) (is_same k.hint.version d.version) parts.1 in
    let names = and_parts (nat_eq k.hint.owner d.owner) (bytes_eq k.hint.key d.key) of.0 in
    record {
      is_pending = open_pending k.fate front.0;
      same_id = eqb-true k.hint.id id front.1;
      same_owner = eqb-true k.hint.owner d.owner names.0;
      same_key = (bytes_eq-Decides k.hint.key d.key).0 names.1;
      same_version = is_same-exact k.hint.version d.version of.1;
    }

pub answered_from : (id : ℕ) (d : Delivery) (k : Kept) → IsAnswered id d k → is_answered id d k ≡ true
answered_from id d k is =
    and_from (is_pending k && nat_eq k.hint.id id) (delivers_hint d k.hint)
    (and_from (is_pending k) (nat_eq k.hint.id id) (ap is_undelivered is.is_pending) (eq-eqb k.hint.id id is.same_id))
    (and_from (nat_eq k.hint.owner d.owner && bytes_eq k.hint.key d.key) (is_same k.hint.version d.version)
    (and_from (nat_eq k.hint.owner d.owner) (bytes_eq k.hint.key d.key) (eq-eqb k.hint.owner d.owner is.same_owner)
    ((bytes_eq-Decides k.hint.key d.key).1 is.same_key))
    (subst (λ (v : Version). is_same k.hint.version v ≡ true) is.same_version (ap is_eq (tied_itself version_total k.hint.version))))

-- the test of a delivery as equations
pub answered_fact : (b : Bool) (hints : List Kept) (id : ℕ) (d : Delivery) → b ≡ list_any (is_answered id d) hints
    → (b ≡ true) ↔ Any (IsAnswered id d) hints
answered_fact b hints id d is = (
  (λ t. let found = Any-from_list_any (is_answered id d) hints (sym is ∙ t) in
      (found.0, found.1, found.2, found.3, answered_is id d found.1 found.4)),
  (λ found. is ∙ list_any-from_Any (is_answered id d) hints (found.0, found.1, found.2, found.3, answered_from id d found.1 found.4)),
)

-- the hint that a delivery is of
pub record IsFound (hints : List Kept) (id : ℕ) (d : Delivery) : Type 0 where
  pub kept : Kept
  pub over : 1 ≤ id
  pub inside : id - 1 < length hints
  pub stands : get_or hints (id - 1) kept ≡ kept
  pub answered : IsAnswered id d kept

pub found_at : (hints : List Kept) (id : ℕ) (d : Delivery) → HaveIdsFrom 1 hints → list_any (is_answered id d) hints ≡ true → IsFound hints id d
found_at hints id d a t =
    let found = Any-from_list_any (is_answered id d) hints t in
    let is = answered_is id d found.1 found.4 in
    let number : found.1.hint.id ≡ 1 + found.0 = ap (λ (k : Kept). k.hint.id) (sym found.3) ∙ id_at 1 hints found.0 found.1 a found.2 in
    let place : found.0 ≡ id - 1 = omega (arith, is.same_id, number) in
    record {
      kept = found.1;
      over = omega (arith, is.same_id, number);
      inside = omega (arith, place, found.2);
      stands = ap (λ j. get_or hints j found.1) (sym place) ∙ found.3;
      answered = is;
    }

-- the pending hint of a number, of that owner
pub record IsOpen (hints : List Kept) (id owner : ℕ) : Type 0 where
  pub kept : Kept
  pub is : kept_at hints id ≡ Some kept
  pub pending : kept.fate ≡ Pending
  pub same_owner : kept.hint.owner ≡ owner

pub open_at : (hints : List Kept) (id owner : ℕ) → MatchOption (kept_at hints id) ⊥ (λ k. (k.fate ≡ Pending) × (k.hint.owner ≡ owner))
    → IsOpen hints id owner
open_at hints id owner h =
    elim (kept_at hints id) as (λ o. kept_at hints id ≡ o → MatchOption o ⊥ (λ k. (k.fate ≡ Pending) × (k.hint.owner ≡ owner))
    → IsOpen hints id owner) [
      | None ↦ λ e no. absurd no
      | Some k ↦ λ e is. record { kept = k; is = e; pending = is.0; same_owner = is.1 }
    ] refl h

-- its delivery: that of a hint to an owner
abbrev pub delivery_to : ℕ → Hint → Bool → Delivery
delivery_to owner h known = record { owner = owner; key = h.key; version = h.version; known = known }

pub open_found : (hints : List Kept) (id owner : ℕ) (known : Bool) → HaveIdsFrom 1 hints → (o : IsOpen hints id owner)
    → IsFound hints id (delivery_to owner o.kept.hint known)
open_found hints id owner known a o =
    let there = kept_some hints id o.kept o.is in
    let number = id_at 1 hints (id - 1) o.kept a there.1 in
    record {
      kept = o.kept;
      over = there.0;
      inside = there.1;
      stands = there.2;
      answered = record {
        is_pending = o.pending;
        same_id = ap (λ (x : Kept). x.hint.id) (sym there.2) ∙ number ∙ omega (arith, there.0);
        same_owner = o.same_owner;
        same_key = refl;
        same_version = refl;
      };
    }

-- a hint that was found is open
pub found_open : (hints : List Kept) (id : ℕ) (d : Delivery) → IsFound hints id d
    → MatchOption (kept_at hints id) ⊥ (λ k. (k.fate ≡ Pending) × (k.hint.owner ≡ d.owner))
found_open hints id d f =
    subst (λ o. MatchOption o ⊥ (λ (k : Kept). (k.fate ≡ Pending) × (k.hint.owner ≡ d.owner)))
    (sym (kept_there hints id f.kept f.over f.inside ∙ ap (λ x. Some x) f.stands)) (f.answered.is_pending, f.answered.same_owner)

-- the owner of the pending hint of a number, if there is one
pub open_owner : (hints : List Kept) (id owner : ℕ) → option_and_then waiting_owner (kept_at hints id) ≡ Some owner → IsOpen hints id owner
open_owner hints id owner is =
    elim (kept_at hints id) as (λ o. kept_at hints id ≡ o → option_and_then waiting_owner o ≡ Some owner → IsOpen hints id owner) [
      | None ↦ λ e no. absurd (cc)
      | Some k ↦ λ e is.
          elim (is_undelivered k.fate) as (λ b. is_undelivered k.fate ≡ b → cond b (Some k.hint.owner) None ≡ Some owner → IsOpen hints id owner) [
            | true ↦ λ t own. record { kept = k; is = e; pending = open_pending k.fate t; same_owner = same_Some k.hint.owner owner own }
            | false ↦ λ t no. absurd (cc)
          ] refl is
    ] refl is

-- the outcome of a delivery of a hint by its number alone
pub settle_open : (hints : List Kept) (id owner : ℕ) (known : Bool) → HaveIdsFrom 1 hints → IsOpen hints id owner
    → settle hints id known ≡ gives tt (closed hints id known)
settle_open hints id owner known a o =
    let d : Delivery = delivery_by o.kept.hint known in
    let f : IsFound hints id d = open_found hints id o.kept.hint.owner known a
    (record { kept = o.kept; is = o.is; pending = o.pending; same_owner = refl }) in
    let any : list_any (is_answered id d) hints ≡ true = list_any-from_Any (is_answered id d) hints
    (id - 1, f.kept, f.inside, f.stands, answered_from id d f.kept f.answered) in
    ap (settled_at hints id known) o.is ∙ ap (λ b. cond b (gives tt (closed hints id known)) (refuses UnknownHint)) any

pub settle_none : (hints : List Kept) (id : ℕ) (known : Bool) → HaveIdsFrom 1 hints → option_and_then waiting_owner (kept_at hints id) ≡ None
    → settle hints id known ≡ refuses UnknownHint
settle_none hints id known a none =
    elim (kept_at hints id) as (λ o. kept_at hints id ≡ o → option_and_then waiting_owner o ≡ None
    → settled_at hints id known o ≡ refuses UnknownHint) [
      | None ↦ λ e no. refl
      | Some k ↦ λ e no.
          let shut : is_undelivered k.fate ≡ false = elim (is_undelivered k.fate) as
          (λ b. cond b (Some k.hint.owner) None ≡ None → b ≡ false) [ true ↦ λ n. cc | false ↦ λ n. refl ] no in
          ap (λ b. cond b (gives tt (closed hints id known)) (refuses UnknownHint))
          (awaits_some hints id (delivery_by k.hint known) k a (sym e) ∙ ap (λ b. b && delivers_hint (delivery_by k.hint known) k.hint) shut)
    ] refl none

answered_other : (id : ℕ) (d : Delivery) (k : Kept) → (k.hint.id ≡ id → ⊥) → answered id d k ≡ k
answered_other id d k other = ap (λ b. cond b (record { hint = k.hint; fate = fate_of d }) k) (ne_eqb k.hint.id id other)

confirmed_past : (n id : ℕ) (hints : List Kept) (d : Delivery) → HaveIdsFrom n hints → id < n → confirmed hints id d ≡ hints
confirmed_past n id [] d a h = refl
confirmed_past n id (k ∷ ks) d a h = λ i. answered_other id d k (λ e. omega (arith, e, a.0)) i ∷ confirmed_past (n + 1) id ks d a.1 (omega arith) i

-- the hints after a delivery: a write at the place of its hint
pub confirmed_set : (n id j : ℕ) (hints : List Kept) (d : Delivery) (x : Kept) → HaveIdsFrom n hints → id ≡ n + j → j < length hints
    → confirmed hints id d ≡ set hints j (record { hint = (get_or hints j x).hint; fate = fate_of d })
confirmed_set n id j [] d x a is h = absurd (omega arith)
confirmed_set n id zero (k ∷ ks) d x a is h =
    λ i. ap (λ b. cond b (record { hint = k.hint; fate = fate_of d }) k) (eq-eqb k.hint.id id (omega (arith, a.0))) i ∷ confirmed_past
    (n + 1) id ks d a.1 (omega arith) i
confirmed_set n id (suc j) (k ∷ ks) d x a is h =
    λ i. answered_other id d k (λ e. omega (arith, e, a.0)) i ∷ confirmed_set (n + 1) id j ks d x a.1 (omega arith) (omega arith) i

-- the same for the hint that a delivery is of
pub confirmed_at : (hints : List Kept) (id : ℕ) (d : Delivery) → HaveIdsFrom 1 hints → (f : IsFound hints id d)
    → confirmed hints id d ≡ set hints (id - 1) (record { hint = f.kept.hint; fate = fate_of d })
confirmed_at hints id d a f =
    confirmed_set 1 id (id - 1) hints d f.kept a (omega (arith, f.over)) f.inside
    ∙ ap (λ (x : Kept). set hints (id - 1) (record { hint = x.hint; fate = fate_of d })) f.stands

-- a hint that was answered gives the delivery back
delivery_back : (h : Hint) (d : Delivery) → h.owner ≡ d.owner → h.key ≡ d.key → h.version ≡ d.version
    → delivery_of (record { hint = h; fate = fate_of d }) ≡ Some d
delivery_back h d o k v =
    elim d.known as (λ t. d.known ≡ t
    → option_map (λ known. record { owner = h.owner; key = h.key; version = h.version; known = known })
    (owner_answer (cond t Known Taken)) ≡ Some d) [
      | true ↦ λ e. λ i. Some (record { owner = o i; key = k i; version = v i; known = sym e i })
      | false ↦ λ e. λ i. Some (record { owner = o i; key = k i; version = v i; known = sym e i })
    ] refl

pub kept_answered : (hints : List Kept) (id : ℕ) (d : Delivery) → HaveIdsFrom 1 hints → list_any (is_answered id d) hints ≡ true
    → option_and_then delivery_of (kept_at (confirmed hints id d) id) ≡ Some d
kept_answered hints id d a t =
    let f = found_at hints id d a t in
    let k : Kept = record { hint = f.kept.hint; fate = fate_of d } in
    let items : confirmed hints id d ≡ set hints (id - 1) k = confirmed_at hints id d a f in
    let inside : id - 1 < length (set hints (id - 1) k) = simp length-set f.inside in
    ap (λ hs. option_and_then delivery_of (kept_at hs id)) items
    ∙ (ap (option_and_then delivery_of) (kept_there (set hints (id - 1) k) id k f.over inside
    ∙ ap (λ x. Some x) (get_or-set_same hints (id - 1) k k f.inside))
    ∙ delivery_back f.kept.hint d f.answered.same_owner f.answered.same_key f.answered.same_version)

answered-same_id : (id : ℕ) (d : Delivery) (k : Kept) → (answered id d k).hint ≡ k.hint
answered-same_id id d k =
    elim (nat_eq k.hint.id id) as (λ b. (cond b (record { hint = k.hint; fate = fate_of d }) k).hint ≡ k.hint) [ true ↦ refl | false ↦ refl ]

pub AreNumberedFrom-confirmed : (n id : ℕ) (hints : List Kept) (d : Delivery) → HaveIdsFrom n hints → HaveIdsFrom n (confirmed hints id d)
AreNumberedFrom-confirmed n id [] d a = tt
AreNumberedFrom-confirmed n id (k ∷ ks) d a = (ap (λ (h : Hint). h.id) (answered-same_id id d k) ∙ a.0, AreNumberedFrom-confirmed (n + 1) id ks d a.1)

pub fate_closed : (d : Delivery) → is_undelivered (fate_of d) ≡ false
fate_closed d = elim d.known as (λ t. is_undelivered (cond t Known Taken) ≡ false) [ true ↦ refl | false ↦ refl ]

-- why no hint can be kept, by the number of the pending ones, and else by that of all
pub full_of_pending : (hints : List Kept) (n : ℕ) → n ≡ pending_count hints → 10000 ≤ n → keep_fault hints ≡ cond (leb 10000 n) (Some HintsFull) None
full_of_pending hints n is many =
    ap (λ b. cond (b && nat_lt (length hints + 1) (2 ^ 32)) None (Some HintsFull)) (le-ltb (pending_count hints) 10000 (omega arith))
    ∙ ap (λ b. cond b (Some HintsFull) None) (sym (le-leb 10000 n many))

pub full_of_ids : (hints : List Kept) (n : ℕ) → n ≡ length hints → pending_count hints < 10000
    → keep_fault hints ≡ cond (leb 4294967295 n) (Some HintsFull) None
full_of_ids hints n is few =
    ap (λ b. cond (b && nat_lt (length hints + 1) (2 ^ 32)) None (Some HintsFull)) (lt-ltb (pending_count hints) 10000 few)
    ∙ elim (cases_lt n 4294967295) [
      | inl less ↦ ap (λ b. cond b None (Some HintsFull)) (lt-ltb (length hints + 1) (2 ^ 32) (omega arith))
          ∙ ap (λ b. cond b (Some HintsFull) None) (sym (lt-leb 4294967295 n less))
      | inr last ↦ ap (λ b. cond b None (Some HintsFull)) (le-ltb (length hints + 1) (2 ^ 32) (omega arith))
          ∙ ap (λ b. cond b (Some HintsFull) None) (sym (le-leb 4294967295 n last))
    ]

-- a delivery that was confirmed: the hints after it
pub confirm_ok : (hs new : List Kept) (id : ℕ) (d : Delivery) → confirm hs id d ≡ gives tt new → new ≡ confirmed hs id d
confirm_ok hs new id d e = pick (list_any (is_answered id d) hs) (confirmed hs id d) new e
  where
    pick : (b : Bool) (x y : List Kept) → ◌≡◌ {A = Outcome (Unit {0}) (List Kept)} (cond b (gives tt x) (refuses UnknownHint)) (gives tt y) → y ≡ x
    pick true x y e = cc
    pick false x y e = absurd (cc)
