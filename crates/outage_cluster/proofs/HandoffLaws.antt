-- Hints: what a search for the next one skips, and what a loop over them does.
use Rattle.std.proofs.Common.{◌≡◌, ℕ, zero, suc, ◌+◌, ◌-◌, ◌<◌, ◌≤◌, Bool, true, false, cond, List, [], ◌∷◌, drop, refl, ap, sym, subst, ◌∙◌, arith}
use Rattle.std.proofs.Common.{Option, Some, None}
use Rattle.std.specs.Prelude.{IsTrue, fold, find, nat_lt, nat_eq, ◌&&◌, ◌||◌, length}
use Rattle.std.specs.Option.{option_map}
use Rattle.std.specs.List.{list_any}
use Rattle.std.proofs.lemmas.Bool.{and_parts}
use Rattle.std.proofs.lemmas.Bool.Decides.{nat_tests}
use Rattle.hint_store.specs.Hints.{HaveIdsFrom, is_answered, is_due, is_undelivered, is_pending, next_hint, answered, confirm, confirmed, delivery_by}
use Rattle.hint_store.specs.declared.hint.Delivery.{Delivery}
use Rattle.hint_store.specs.declared.hint.Fate.{Fate}
use Rattle.hint_store.specs.declared.hint.Fate.TheVariants.{Pending}
use Rattle.hint_store.specs.declared.hint.Hint.{Hint}
use Rattle.hint_store.specs.declared.hint.Kept.{Kept}
use Rattle.hint_store.proofs.HintLaws.{answered_from, open_pending}
use Rattle.range_store.specs.declared.receipt.Accepted.{Accepted}
use Rattle.vclock.specs.Outcome.{Outcome, gives, refuses, is_given}
use Rattle.outage_cluster.specs.Handoff.{Round, asked_in, is_offered, offer_one, offered_to, is_known}
use Rattle.outage_cluster.specs.Offers.{after_offer, pending_of, round_at}
use Rattle.outage_cluster.specs.State.{Replica}

drop_none : {X : Type 0} (i : ℕ) (none : List X) → none ≡ [] → drop i none ≡ none
drop_none zero none e = refl
drop_none (suc i) none e = rw e refl

-- ---- what is due is what is offered, after a number

due_behind : (p l a : Bool) → l ≡ false → (p && l && a) ≡ false
due_behind true true a e = cc
due_behind true false a e = refl
due_behind false l a e = refl

due_ahead : (p l a : Bool) → l ≡ true → (p && l && a) ≡ (p && a)
due_ahead true true a e = refl
due_ahead true false a e = cc
due_ahead false l a e = refl

none_parts : (b : Bool) (k : Kept) (rest : Option Kept) → cond b (Some k) rest ≡ None → (b ≡ false) × (rest ≡ None)
none_parts true k rest e = cc
none_parts false k rest e = (refl, e)

skipped : (up : List ℕ) (bits : ℕ) (r : Round) (k : Kept) → is_offered up k ≡ false → offer_one up bits r k ≡ r
skipped up bits r k e = rw e refl

-- if none is due, none of those after the number is offered
pub skips : (up : List ℕ) (bits : ℕ) (ks : List Kept) (n after : ℕ) (r : Round) → HaveIdsFrom n ks → find (is_due up after) ks ≡ None
    → fold (offer_one up bits) r (drop (after + 1 - n) ks) ≡ r
skips up bits [] n after r numbered none = ap (fold (offer_one up bits) r) (drop_none (after + 1 - n) [] refl)
skips up bits (k ∷ ks) n after r numbered none =
    let parts = none_parts (is_due up after k) k (find (is_due up after) ks) none in
    here parts.0 (skips up bits ks (n + 1) after r numbered.1 parts.1) (nat_lt after n) refl
  where
    here : is_due up after k ≡ false → fold (offer_one up bits) r (drop (after + 1 - (n + 1)) ks) ≡ r → (b : Bool) → nat_lt after n ≡ b
        → fold (offer_one up bits) r (drop (after + 1 - n) (k ∷ ks)) ≡ r
    here off more true later =
        let ahead : nat_lt after k.hint.id ≡ true = rw (numbered.0) later in
        let none_here : is_offered up k ≡ false = sym (due_ahead (is_pending k) (nat_lt after k.hint.id) (list_any (nat_eq k.hint.owner) up) ahead)
        ∙ off in
        let first : after + 1 - n ≡ 0 = grind (arith, nat_tests, later) in
        let next : after + 1 - (n + 1) ≡ 0 = grind (arith, nat_tests, later) in
        rw first (ap (λ (x : Round). fold (offer_one up bits) x ks) (skipped up bits r k none_here) ∙ (rw next at more))
    here off more false before =
        let step : after + 1 - n ≡ suc (after + 1 - (n + 1)) = grind (arith, nat_tests, before) in
        rw step more

-- ---- the next hint

-- the hint that a search finds: those between the number and it are skipped
pub record Found (up : List ℕ) (bits : ℕ) (ks : List Kept) (n after : ℕ) (r : Round) (k : Kept) : Type 0 where
  pub low : n ≤ k.hint.id
  pub ahead : after < k.hint.id
  pub within : k.hint.id < n + length ks
  pub offered : is_offered up k ≡ true
  pub rest : fold (offer_one up bits) r (drop (after + 1 - n) ks) ≡ fold (offer_one up bits) (offer_one up bits r k) (drop (k.hint.id + 1 - n) ks)
  pub there : (test : Kept → Bool) → test k ≡ true → list_any test ks ≡ true

some_parts : (b : Bool) (k x : Kept) (rest : Option Kept) → cond b (Some k) rest ≡ Some x → b ≡ false → rest ≡ Some x
some_parts true k x rest e t = cc
some_parts false k x rest e t = e

some_here : (k x : Kept) → Some k ≡ Some x → k ≡ x
some_here k x e = cc

any_here : {X : Type 0} (test : X → Bool) (x : X) (xs : List X) → test x ≡ true → list_any test (x ∷ xs) ≡ true
any_here test x xs e = rw e refl

any_later : {X : Type 0} (test : X → Bool) (x : X) (xs : List X) → list_any test xs ≡ true → list_any test (x ∷ xs) ≡ true
any_later test x xs e = pick (test x)
  where
    pick : (b : Bool) → (b || list_any test xs) ≡ true
    pick true = refl
    pick false = e

pub finds : (up : List ℕ) (bits : ℕ) (ks : List Kept) (n after : ℕ) (r : Round) (x : Kept) → HaveIdsFrom n ks → find (is_due up after) ks ≡ Some x
    → Found up bits ks n after r x
finds up bits [] n after r x numbered found = cc
finds up bits (k ∷ ks) n after r x numbered found =
    here (λ off. finds up bits ks (n + 1) after r x numbered.1 (some_parts (is_due up after k) k x (find (is_due up after) ks) found off))
    (is_due up after k) (nat_lt after n) refl refl
  where
    late : Found up bits ks (n + 1) after r x → nat_lt after n ≡ true → is_offered up k ≡ false → Found up bits (k ∷ ks) n after r x
    late f later off =
        let first : after + 1 - n ≡ 0 = grind (arith, nat_tests, later) in
        let next : after + 1 - (n + 1) ≡ 0 = grind (arith, nat_tests, later) in
        let low = f.low in
        let step : x.hint.id + 1 - n ≡ suc (x.hint.id + 1 - (n + 1)) = omega (arith, low) in
        record {
          low = omega (arith, low);
          ahead = f.ahead;
          within = omega (arith, f.within);
          offered = f.offered;
          rest = rw (first, step) (ap (λ (y : Round). fold (offer_one up bits) y ks) (skipped up bits r k off) ∙ (rw next at f.rest));
          there = λ test e. any_later test k ks (f.there test e);
        }

    early : Found up bits ks (n + 1) after r x → nat_lt after n ≡ false → Found up bits (k ∷ ks) n after r x
    early f before =
        let first : after + 1 - n ≡ suc (after + 1 - (n + 1)) = grind (arith, nat_tests, before) in
        let low = f.low in
        let step : x.hint.id + 1 - n ≡ suc (x.hint.id + 1 - (n + 1)) = omega (arith, low) in
        record {
          low = omega (arith, low);
          ahead = f.ahead;
          within = omega (arith, f.within);
          offered = f.offered;
          rest = rw (first, step) f.rest;
          there = λ test e. any_later test k ks (f.there test e);
        }

    itself : k ≡ x → is_due up after k ≡ true → nat_lt after n ≡ true → Found up bits (k ∷ ks) n after r x
    itself same due later =
        let ahead : nat_lt after k.hint.id ≡ true = rw (numbered.0) later in
        let yes : is_offered up k ≡ true = sym (due_ahead (is_pending k) (nat_lt after k.hint.id) (list_any (nat_eq k.hint.owner) up) ahead) ∙ due in
        let first : after + 1 - n ≡ 0 = grind (arith, nat_tests, later) in
        let id : k.hint.id ≡ n = numbered.0 in
        let one : k.hint.id + 1 - n ≡ 1 = omega (arith, id) in
        subst (λ y. Found up bits (k ∷ ks) n after r y) same (record {
          low = omega (arith, id);
          ahead = grind (arith, nat_tests, ahead);
          within = omega (arith, id);
          offered = yes;
          rest = rw (first, one) refl;
          there = λ test e. any_here test k ks e;
        })

    here : (is_due up after k ≡ false → Found up bits ks (n + 1) after r x) → (b l : Bool) → is_due up after k ≡ b → nat_lt after n ≡ l
        → Found up bits (k ∷ ks) n after r x
    here more true true due later = itself (some_here k x (sym (rw due refl) ∙ found)) due later
    here more true false due before =
        let behind : nat_lt after k.hint.id ≡ false = rw (numbered.0) before in
        let both : true ≡ false = sym due ∙ due_behind (is_pending k) (nat_lt after k.hint.id) (list_any (nat_eq k.hint.owner) up) behind in
        cc
    here more false true due later =
        let ahead : nat_lt after k.hint.id ≡ true = rw (numbered.0) later in
        late (more due) later (sym (due_ahead (is_pending k) (nat_lt after k.hint.id) (list_any (nat_eq k.hint.owner) up) ahead) ∙ due)
    here more false false due before = early (more due) before

-- ---- what was confirmed

other : (id : ℕ) (d : Delivery) (k : Kept) → nat_eq k.hint.id id ≡ false → answered id d k ≡ k
other id d k e = rw e refl

-- after the hint that was confirmed, nothing changed
pub confirmed_rest : (ks : List Kept) (n id : ℕ) (d : Delivery) → HaveIdsFrom n ks → drop (id + 1 - n) (confirmed ks id d) ≡ drop (id + 1 - n) ks
confirmed_rest [] n id d numbered = refl
confirmed_rest (k ∷ ks) n id d numbered = here (confirmed_rest ks (n + 1) id d numbered.1) (nat_lt id n) refl
  where
    here : drop (id + 1 - (n + 1)) (confirmed ks id d) ≡ drop (id + 1 - (n + 1)) ks → (b : Bool) → nat_lt id n ≡ b
        → drop (id + 1 - n) (confirmed (k ∷ ks) id d) ≡ drop (id + 1 - n) (k ∷ ks)
    here more true later =
        let same : k.hint.id ≡ n = numbered.0 in
        let not_it : nat_eq k.hint.id id ≡ false = grind (arith, nat_tests, later, same) in
        let first : id + 1 - n ≡ 0 = grind (arith, nat_tests, later) in
        let next : id + 1 - (n + 1) ≡ 0 = grind (arith, nat_tests, later) in
        rw first (ap (λ (y : Kept). y ∷ confirmed ks id d) (other id d k not_it) ∙ ap (λ (ys : List Kept). k ∷ ys) (rw next at more))
    here more false before =
        let step : id + 1 - n ≡ suc (id + 1 - (n + 1)) = grind (arith, nat_tests, before) in
        rw step more

-- ---- a step of a delivery

-- what the next hint is to a delivery
pub record IsNext (up : List ℕ) (bits after : ℕ) (hs : List Kept) (r : Round) (hint : Hint) : Type 0 where
  pub ahead : after < hint.id
  pub awaited : (known : Bool) → IsTrue (is_given (confirm hs hint.id (delivery_by hint known)))
  pub rest : fold (offer_one up bits) r (drop after hs) ≡ fold (offer_one up bits) (offered_to bits r hint (asked_in bits r.replicas hint))
      (drop hint.id hs)

one_less : (a : ℕ) → a + 1 - 1 ≡ a
one_less a = omega arith

found_pending : (k : Kept) → k.fate ≡ Pending → k ≡ pending_of k.hint
found_pending k e = ap (λ (f : Fate). record { hint = k.hint; fate = f }) e

record Found_as (o : Option Kept) (hint : Hint) : Type 0 where
  kept : Kept
  is : o ≡ Some kept
  same : kept.hint ≡ hint

hint_of : (o : Option Kept) (hint : Hint) → option_map (λ (k : Kept). k.hint) o ≡ Some hint → Found_as o hint
hint_of None hint e = cc
hint_of (Some k) hint e = record { kept = k; is = refl; same = cc }

offered_here : (up : List ℕ) (bits : ℕ) (r : Round) (k : Kept) → is_offered up k ≡ true
    → offer_one up bits r k ≡ offered_to bits r k.hint (asked_in bits r.replicas k.hint)
offered_here up bits r k e = rw e refl

pub next_is : (up : List ℕ) (bits after : ℕ) (hs : List Kept) (r : Round) (hint : Hint) → HaveIdsFrom 1 hs → next_hint up after hs ≡ Some hint
    → IsNext up bits after hs r hint
next_is up bits after hs r hint numbered e =
    let of = hint_of (find (is_due up after) hs) hint e in
    let f = finds up bits hs 1 after r of.kept numbered of.is in
    let pending : is_undelivered of.kept.fate ≡ true = (and_parts (is_pending of.kept) (list_any (nat_eq of.kept.hint.owner) up) f.offered).0 in
    let same : of.kept ≡ pending_of hint = found_pending of.kept (open_pending of.kept.fate pending) ∙ ap pending_of of.same in
    let id : of.kept.hint.id ≡ hint.id = ap (λ (h : Hint). h.id) of.same in
    let g : Found up bits hs 1 after r (pending_of hint) = subst (λ (k : Kept). Found up bits hs 1 after r k) same f in
    record {
      ahead = g.ahead;
      awaited = λ known. rw (g.there (is_answered hint.id (delivery_by hint known))
          (answered_from hint.id (delivery_by hint known) (pending_of hint)
          (record { is_pending = refl; same_id = refl; same_owner = refl; same_key = refl; same_version = refl }))) refl;
      rest = ap (λ (n : ℕ). fold (offer_one up bits) r (drop n hs)) (sym (one_less after)) ∙ g.rest
          ∙ ap (λ (n : ℕ). fold (offer_one up bits) (offer_one up bits r (pending_of hint)) (drop n hs)) (one_less hint.id)
          ∙ ap (λ (x : Round). fold (offer_one up bits) x (drop hint.id hs)) (offered_here up bits r (pending_of hint) g.offered);
    }

-- if there is no next hint, nothing more is done
pub last_is : (up : List ℕ) (bits after : ℕ) (hs : List Kept) (r : Round) → HaveIdsFrom 1 hs → next_hint up after hs ≡ None
    → fold (offer_one up bits) r (drop after hs) ≡ r
last_is up bits after hs r numbered e = ap (λ (n : ℕ). fold (offer_one up bits) r (drop n hs)) (sym (one_less after))
    ∙ skips up bits hs 1 after r numbered (no_hint (find (is_due up after) hs) e)
  where
    no_hint : (o : Option Kept) → option_map (λ (k : Kept). k.hint) o ≡ None → o ≡ None
    no_hint None e = refl
    no_hint (Some k) e = cc

-- ---- after the hint that was offered, nothing changed

home_rest : (bits : ℕ) (r : Round) (hint : Hint) (o : Outcome Accepted (List Replica)) → HaveIdsFrom 1 r.hints
    → drop hint.id (offered_to bits r hint o).hints ≡ drop hint.id r.hints
home_rest bits r hint (refuses e) numbered = refl
home_rest bits r hint (gives reply reps) numbered =
    let d = delivery_by hint (is_known reply) in
    ap (λ (n : ℕ). drop n (confirmed r.hints hint.id d)) (sym (one_less hint.id)) ∙ confirmed_rest r.hints 1 hint.id d numbered
    ∙ ap (λ (n : ℕ). drop n r.hints) (one_less hint.id)

-- a step of the loop
pub stepped : (up : List ℕ) (bits after : ℕ) (hs new : List Kept) (reps now : List (List Replica)) (taken known : ℕ) (o : Option Bool) (hint : Hint)
    (whole : Round) → HaveIdsFrom 1 hs → next_hint up after hs ≡ Some hint
    → fold (offer_one up bits) (round_at reps hs taken known) (drop after hs) ≡ whole
    → after_offer o now new taken known ≡ offered_to bits (round_at reps hs taken known) hint (asked_in bits reps hint)
    → (after_offer o now new taken known).hints ≡ new → fold (offer_one up bits) (after_offer o now new taken known) (drop hint.id new) ≡ whole
stepped up bits after hs new reps now taken known o hint whole numbered e so done its =
    let r = round_at reps hs taken known in
    let f = next_is up bits after hs r hint numbered e in
    let behind : drop hint.id new ≡ drop hint.id hs = ap (drop hint.id) (sym its ∙ ap (λ (x : Round). x.hints) done)
    ∙ home_rest bits r hint (asked_in bits reps hint) numbered in
    ap (fold (offer_one up bits) (after_offer o now new taken known)) behind ∙ ap (λ (x : Round). fold (offer_one up bits) x (drop hint.id hs)) done
    ∙ sym f.rest ∙ so
