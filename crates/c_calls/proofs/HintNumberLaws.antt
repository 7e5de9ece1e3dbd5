-- No number ever names two hints.
use Rattle.std.proofs.Common.{◌≡◌, ℕ, ◌+◌, ◌-◌, ◌<◌, ◌≤◌, ◌^◌, Bool, true, false, ◌&&◌, cond, List, [], ◌∷◌, ◌++◌, length, get_or, Option, Some}
use Rattle.std.proofs.Common.{None, refl, ap, sym, subst, ◌∙◌, inl, inr, arith, length-append}
use Rattle.std.specs.Prelude.{⊤, MatchOption, nat_eq, nat_lt, filter, slice_get}
use Rattle.std.specs.Option.{option_map}
use Rattle.std.specs.List.{list_any}
use Rattle.std.proofs.lemmas.Bool.{and_parts, cases_eq, eq-eqb, ltb-true}
use Rattle.std.proofs.lemmas.List.{get_or_append_left, length-map}
use Rattle.std.proofs.Math.Seq.{get_or-append_seam}
use Rattle.std.proofs.lemmas.Option.{same_Some, slice_get-get_or, slice_get-map, slice_get_past}
use Rattle.vclock.specs.Clock.{Pairs, clock_of, pairs_fault}
use Rattle.vclock.specs.Bytes.{key_fault}
use Rattle.vclock.specs.Outcome.{Outcome, gives, refuses, through, ◌>>=◌, ◌>>◌}
use Rattle.vclock.specs.declared.format.Format.TheVariants.{Two}
use Rattle.vclock.specs.declared.refusal.Refusal.{Refusal}
use Rattle.vclock.specs.declared.refusal.Refusal.TheVariants.{HintsFull, UnknownHint}
use Rattle.version_set.specs.Kind.{value_fault}
use Rattle.version_set.specs.declared.version.Version.{Version}
use Rattle.hint_store.specs.declared.hint.Hint.{Hint}
use Rattle.hint_store.specs.declared.hint.Fate.TheVariants.{Pending}
use Rattle.hint_store.specs.declared.hint.Kept.{Kept}
use Rattle.hint_store.specs.Hints.{kept_at, keep_fault, with_hint, is_pending, pending_count, closed_at, closed, fate_if, is_answered, delivery_by}
use Rattle.hint_store.specs.Hints.{settled_at}
use Rattle.hint_store.specs.Renewals.{numbered_from, renewed}
use Rattle.hint_store.proofs.HintLaws.{kept_some, kept_there}
use Rattle.c_calls.specs.Puts.{node_fault, kind_fault, kind_numbered}
use Rattle.c_calls.specs.Carried.{Carried, carried, named, last_number, number_fault, keep_at, settle_at, renew, restored}
use Rattle.c_calls.specs.HintSteps.{hint_named, HintStep, keeps, settles, renews, restores, after_outcome, after_step, after_steps, GoesOn, IsKept}

abbrev hint_of : Option Kept → Option Hint
hint_of o = option_map (λ (k : Kept). k.hint) o

-- a store's numbers are from 1
kept_at-zero : (hints : List Kept) (i : ℕ) → i ≡ 0 → kept_at hints i ≡ None
kept_at-zero hints i z = ap (λ b. cond b None (slice_get hints (i - 1))) (eq-eqb i 0 z)

kept_at-empty : (i : ℕ) → kept_at [] i ≡ None
kept_at-empty i = rw (slice_get_past {X = Kept} [] (i - 1) (omega arith)) (both (nat_eq i 0))
  where
    both : (b : Bool) → ◌≡◌ {A = Option Kept} (cond b None None) None
    both true = refl
    both false = refl

-- more hints leave the ones that were there
kept_at-more : (hints more : List Kept) (i : ℕ) → i ≤ length hints → kept_at (hints ++ more) i ≡ kept_at hints i
kept_at-more hints more i le = elim (cases_eq i 0) [
  | inl z ↦ kept_at-zero (hints ++ more) i z ∙ sym (kept_at-zero hints i z)
  | inr n ↦ ap (λ o. cond (nat_eq i 0) None o) (slice_get-more hints (i - 1) (omega arith))
]
  where
    slice_get-more : (xs : List Kept) (j : ℕ) → j < length xs → slice_get (xs ++ more) j ≡ slice_get xs j
    slice_get-more [] j lt = absurd (omega (arith, lt))
    slice_get-more (x ∷ xs) j lt =
        slice_get-get_or ((x ∷ xs) ++ more) j x (omega (arith, length-append (x ∷ xs) more))
        ∙ ap (λ k. Some k) (get_or_append_left (x ∷ xs) more x j lt)
        ∙ sym (slice_get-get_or (x ∷ xs) j x lt)

-- a delivery changes no hint
kept_at-closed : (hints : List Kept) (id : ℕ) (known : Bool) (i : ℕ) → hint_of (kept_at (closed hints id known) i) ≡ hint_of (kept_at hints i)
kept_at-closed hints id known i =
    ap (λ o. hint_of (cond (nat_eq i 0) None o)) (slice_get-map (closed_at id known) hints (i - 1)) ∙ within (nat_eq i 0) (slice_get hints (i - 1))
  where
    closes : (k : Kept) (b : Bool) → (cond b (record k { fate = fate_if known }) k).hint ≡ k.hint
    closes k true = refl
    closes k false = refl

    within : (b : Bool) (o : Option Kept) → hint_of (cond b None (option_map (closed_at id known) o)) ≡ hint_of (cond b None o)
    within true o = refl
    within false None = refl
    within false (Some k) = ap (λ h. Some h) (closes k (nat_eq k.hint.id id))

pub goes_on-refl : (c : Carried) → GoesOn c c
goes_on-refl c = record { later = omega arith; same = λ n le h e. e }

pub goes_on-trans : (a b c : Carried) → GoesOn a b → GoesOn b c → GoesOn a c
goes_on-trans a b c f g = record {
  later = omega (arith, f.later, g.later);
  same = λ n le h e. f.same n le h (g.same n (omega (arith, le, f.later)) h e);
}

-- an outcome is refused, or right
abbrev Gives : {T : Type 0} → (T → Carried → Type 0) → Outcome T Carried → Type 0
Gives Right (gives x new) = Right x new
Gives Right (refuses e) = ⊤

-- what holds of the hints before an outcome and, if it is not refused, after it, holds after it
held_after : {T : Type 0} (P : Carried → Type 0) (c : Carried) (o : Outcome T Carried) → P c → Gives (λ _. P) o → P (after_outcome c o)
held_after P c (gives x new) before after = after
held_after P c (refuses e) before after = before

guarded : {T : Type 0} (Right : T → Carried → Type 0) (cause : Option Refusal) (rest : Outcome T Carried) → Gives Right rest
    → Gives Right (cause >> rest)
guarded Right None rest right = right
guarded Right (Some e) rest right = tt

below_limit : {T : Type 0} (Right : T → Carried → Type 0) (n : ℕ) (rest : Outcome T Carried) → (n < 2 ^ 64 → Gives Right rest)
    → Gives Right (number_fault n >> rest)
below_limit Right n rest right = elim (nat_lt n (2 ^ 64)) as (λ b. nat_lt n (2 ^ 64) ≡ b → Gives Right (cond b None (Some HintsFull) >> rest)) [
  | true ↦ λ is. right (ltb-true n (2 ^ 64) is)
  | false ↦ λ _. tt
] refl

-- a keep has room for one more number, and adds a hint
keep_gives : (Right : ℕ → Carried → Type 0) (c : Carried) (owner : ℕ) (key : List ℕ) (clock : Pairs) (kind : ℕ) (value : List ℕ)
    → (last_number c + 1 < 2 ^ 64
    → Right (c.before + (length c.hints + 1))
    (carried c.before (with_hint c.hints owner key (record { clock = clock_of clock; kind = kind_numbered kind; value = value }))))
    → Gives Right (keep_at c owner key clock kind value)
keep_gives Right c owner key clock kind value right =
    guarded Right (node_fault owner) _ (
    guarded Right (pairs_fault clock) _ (
    guarded Right (kind_fault kind) _ (
    guarded Right (key_fault key) _ (
    guarded Right (value_fault Two (kind_numbered kind) value) _ (
    below_limit Right (last_number c + 1) _ (λ small. unless (keep_fault c.hints) (right small)))))))
  where
    unless : (cause : Option Refusal)
        → Right (c.before + (length c.hints + 1))
        (carried c.before (with_hint c.hints owner key (record { clock = clock_of clock; kind = kind_numbered kind; value = value })))
        → Gives Right ((cause >> gives (length c.hints + 1)
        (with_hint c.hints owner key (record { clock = clock_of clock; kind = kind_numbered kind; value = value }))) >>=
        (λ k. gives (c.before + k.0) (carried c.before k.1)))
    unless None is_right = is_right
    unless (Some e) is_right = tt

-- what holds of the hints before a confirmation and, if a hint was delivered, after it, holds after it
after_settle : (P : Carried → Type 0) (c : Carried) (n : ℕ) (known : Bool) → P c → P (carried c.before (closed c.hints (n - c.before) known))
    → P (after_outcome c (settle_at c n known))
after_settle P c n known before after = at (kept_at c.hints (n - c.before))
  where
    by_test : (b : Bool) (one other : Outcome (Unit {0}) (List Kept)) → P (after_outcome c (through (carried c.before) one))
        → P (after_outcome c (through (carried c.before) other))
        → P (after_outcome c (through (carried c.before) (cond b one other)))
    by_test true one other holds also = holds
    by_test false one other holds also = also

    at : (o : Option Kept) → P (after_outcome c (through (carried c.before) (settled_at c.hints (n - c.before) known o)))
    at None = before
    at (Some k) = by_test (list_any (is_answered (n - c.before) (delivery_by k.hint known)) c.hints) (gives tt (closed c.hints (n - c.before) known))
        (refuses UnknownHint) after before

-- what holds of the hints before a restart and, if its number may be used, after it, holds after it
after_restore : (P : Carried → Type 0) (c : Carried) (first : ℕ) → P c → (last_number c < first → first < 2 ^ 64 → P (restored first))
    → P (after_step c (restores first))
after_restore P c first before after =
    elim (nat_lt (last_number c) first && nat_lt first (2 ^ 64)) as (λ b. (nat_lt (last_number c) first && nat_lt first (2 ^ 64)) ≡ b
    → P (cond b (restored first) c)) [
      | true ↦ λ is.
          let both = and_parts (nat_lt (last_number c) first) (nat_lt first (2 ^ 64)) is in
          after (ltb-true (last_number c) first both.0) (ltb-true first (2 ^ 64) both.1)
      | false ↦ λ _. before
    ] refl

-- one more hint
grown : (c : Carried) (k : Kept) → GoesOn c (carried c.before (c.hints ++ k ∷ []))
grown c k = record {
  later = omega (arith, length-append c.hints (k ∷ []));
  same = λ n le h e. ap hint_of (sym (kept_at-more c.hints (k ∷ []) (n - c.before) (omega (arith, le)))) ∙ e;
}

-- a delivered hint
delivered : (c : Carried) (n : ℕ) (known : Bool) → GoesOn c (carried c.before (closed c.hints (n - c.before) known))
delivered c n known = record {
  later = omega (arith, length-map c.hints (closed_at (n - c.before) known));
  same = λ m le h e. sym (kept_at-closed c.hints (n - c.before) known (m - c.before)) ∙ e;
}

-- hints whose first number is above all that were used
begun : (c d : Carried) → last_number c ≤ d.before → GoesOn c d
begun c d above = record {
  later = omega (arith, above);
  same = λ n le h e. absurd (let none : None ≡ Some h = sym (ap hint_of (kept_at-zero d.hints (n - d.before) (omega (arith, le, above)))) ∙ e in cc);
}

step_on : (c : Carried) (step : HintStep) → GoesOn c (after_step c step)
step_on c (keeps owner key clock kind value) =
    held_after (GoesOn c) c (keep_at c owner key clock kind value) (goes_on-refl c)
    (keep_gives (λ _. GoesOn c) c owner key clock kind value (λ small. grown c _))
step_on c (settles n known) = after_settle (GoesOn c) c n known (goes_on-refl c) (delivered c n known)
step_on c renews =
    held_after (GoesOn c) c (renew c) (goes_on-refl c)
    (below_limit (λ _. GoesOn c) (last_number c + pending_count c.hints) _
    (λ small. begun c (carried (last_number c) (renewed c.hints)) (omega arith)))
step_on c (restores first) = after_restore (GoesOn c) c first (goes_on-refl c) (λ above small. begun c (restored first) (omega (arith, above)))

pub goes_on : (c : Carried) (steps : List HintStep) → GoesOn c (after_steps c steps)
goes_on c [] = goes_on-refl c
goes_on c (step ∷ steps) =
    goes_on-trans c (after_step c step) (after_steps (after_step c step) steps) (step_on c step) (goes_on (after_step c step) steps)

-- a number that names a hint was used
named_used : (c : Carried) (n : ℕ) (h : Hint) → hint_named c n ≡ Some h → n ≤ last_number c
named_used c n h e = elim (named c n) as (λ o. named c n ≡ o → hint_of o ≡ Some h → n ≤ last_number c) [
  | None ↦ λ is none. absurd (cc)
  | Some k ↦ λ is some. let there = kept_some c.hints (n - c.before) k is in omega (arith, there.0, there.1)
] refl e

pub one_hint : (c : Carried) (steps : List HintStep) (n : ℕ) (h later : Hint) → hint_named c n ≡ Some h
    → hint_named (after_steps c steps) n ≡ Some later → later ≡ h
one_hint c steps n h later was is =
    let same : hint_named c n ≡ Some later = (goes_on c steps).same n (named_used c n h was) later is in
    same_Some later h (sym same ∙ was)

-- all numbers that were used are below 2 ^ 64
abbrev AreBelow : Carried → Type 0
AreBelow c = last_number c < 2 ^ 64

length-numbered : (n : ℕ) (ks : List Kept) → length (numbered_from n ks) ≡ length ks
length-numbered n [] = refl
length-numbered n (k ∷ ks) = omega (arith, length-numbered (n + 1) ks)

step_below : (c : Carried) (step : HintStep) → AreBelow c → AreBelow (after_step c step)
step_below c (keeps owner key clock kind value) is_below =
    held_after AreBelow c (keep_at c owner key clock kind value) is_below
    (keep_gives (λ _. AreBelow) c owner key clock kind value (λ small. omega (arith, small, length-append {A = Kept})))
step_below c (settles n known) is_below =
    after_settle AreBelow c n known is_below (omega (arith, is_below, length-map c.hints (closed_at (n - c.before) known)))
step_below c renews is_below =
    held_after AreBelow c (renew c) is_below
    (below_limit (λ _. AreBelow) (last_number c + pending_count c.hints) _
    (λ small. omega (arith, small, length-numbered 1 (filter is_pending c.hints))))
step_below c (restores first) is_below = after_restore AreBelow c first is_below (λ above small. omega (arith, small))

pub stays_below : (c : Carried) (steps : List HintStep) → last_number c < 2 ^ 64 → last_number (after_steps c steps) < 2 ^ 64
stays_below c [] is_below = is_below
stays_below c (step ∷ steps) is_below = stays_below (after_step c step) steps (step_below c step is_below)

-- the hint that is kept is the last one
last_hint : (c : Carried) (k : Kept) → hint_named (carried c.before (c.hints ++ k ∷ [])) (c.before + (length c.hints + 1)) ≡ Some k.hint
last_hint c k =
    let hints : List Kept = c.hints ++ k ∷ [] in
    let place : c.before + (length c.hints + 1) - c.before ≡ length c.hints + 1 = omega arith in
    let here : length c.hints + 1 - 1 ≡ length c.hints = omega arith in
    ap (λ i. hint_of (kept_at hints i)) place
    ∙ ap hint_of (kept_there hints (length c.hints + 1) k (omega arith) (omega (arith, length-append c.hints (k ∷ []))))
    ∙ ap (λ i. Some (get_or hints i k).hint) here
    ∙ ap (λ (x : Kept). Some x.hint) (get_or-append_seam c.hints k [] k)

pub kept_hint : (c d : Carried) (n owner : ℕ) (key : List ℕ) (clock : Pairs) (kind : ℕ) (value : List ℕ)
    → keep_at c owner key clock kind value ≡ gives n d
    → IsKept c d n owner key (record { clock = clock_of clock; kind = kind_numbered kind; value = value })
kept_hint c d n owner key clock kind value is =
    let v : Version = record { clock = clock_of clock; kind = kind_numbered kind; value = value } in
    let k : Kept = record { hint = record { id = length c.hints + 1; owner = owner; key = key; version = v }; fate = Pending } in
    let Names : Option Hint → Type 0 = λ o. MatchOption o ⊥ (λ h. (h.owner ≡ owner) × (h.key ≡ key) × (h.version ≡ v)) in
    subst (Gives (λ m e. IsKept c e m owner key v)) is
    (keep_gives (λ m e. IsKept c e m owner key v) c owner key clock kind value
    (λ small. record { unused = omega arith; names = subst Names (sym (last_hint c k)) (refl, refl, refl) }))
