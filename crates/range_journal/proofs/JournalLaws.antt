-- What one more entry changes.
use Rattle.std.proofs.Common.{◌⊎◌, zero, suc, inl, inr, Decides, true≢false, None, Some, ltb, ◌≤◌, ◌↔◌, Contains, Any, arith, add-zero, ◌≡◌, ℕ, ◌+◌}
use Rattle.std.proofs.Common.{◌<◌, Bool, true, false, cond, List, [], ◌∷◌, ◌++◌, length, get_or, take, refl, ap, sym, subst, ◌∙◌, ◌||◌, append_assoc}
use Rattle.std.proofs.Common.{append-nil, max}
use Rattle.std.proofs.lemmas.List.{take_more}
use Rattle.std.specs.Prelude.{nat_eq}
use Rattle.std.specs.Cmp.Lexicographic.{pointwise}
use Rattle.version_set.specs.declared.version.Version.{Version}
use Rattle.version_set.specs.Version.{covered, is_same, is_below, maximal, with_version, offered, offer_fault, Ascends, set_from, version_cmp}
use Rattle.version_set.proofs.ListLaws.{ascends-inserted}
use Rattle.version_set.proofs.SetLaws.{offered-maximal, covered-maximal, any-set_from, version_total, is_same-exact}
use Rattle.range_journal.specs.declared.journal.Entry.{Entry}
use Rattle.range_journal.specs.Log.{Log, AreNumberedFrom}
use Rattle.vclock.specs.Outcome.{gives, refuses}
use Rattle.vclock.specs.declared.refusal.Refusal.{Refusal}
use Rattle.range_journal.specs.Journal.{reserve, versions_of, accepted, held, NeverCrowded, AreNewsAfter, AreNews}
use Rattle.vclock.specs.declared.refusal.Refusal.TheVariants.{Crowded, JournalFull}
use Rattle.std.specs.List.{list_any}
use Rattle.std.specs.Ordering.{is_eq}
use Rattle.std.proofs.lemmas.Cmp.{tied_itself}
use Rattle.std.proofs.lemmas.List.Folds.{Any-from_list_any, list_any-from_Any}
use Rattle.std.proofs.lemmas.Slice.Eq.{bytes_eq-Decides}
use Rattle.std.proofs.lemmas.Bool.{le-ltb, lt-ltb, cases_lt}

pub set_from-push : (S vs : List Version) (v : Version) → set_from S (vs ++ v ∷ []) ≡ with_version v (set_from S vs)
set_from-push S [] v = refl
set_from-push S (w ∷ vs) v = set_from-push (with_version w S) vs v

pub Ascends-set_from : (S vs : List Version) → Ascends S → Ascends (set_from S vs)
Ascends-set_from S [] a = a
Ascends-set_from S (v ∷ vs) a = Ascends-set_from (with_version v S) vs (ascends-inserted version_cmp version_total v S a)

pub versions_of-push : (es : List Entry) (e : Entry) (key : List ℕ)
    → versions_of (es ++ e ∷ []) key ≡ cond (pointwise nat_eq e.key key) (versions_of es key ++ e.version ∷ []) (versions_of es key)
versions_of-push [] e key = refl
versions_of-push (x ∷ es) e key =
    elim (pointwise nat_eq x.key key) as
    (λ b. cond b (x.version ∷ versions_of (es ++ e ∷ []) key) (versions_of (es ++ e ∷ []) key) ≡ cond (pointwise nat_eq e.key key)
    (cond b (x.version ∷ versions_of es key) (versions_of es key) ++ e.version ∷ [])
    (cond b (x.version ∷ versions_of es key) (versions_of es key))) [
      | true ↦ ap (λ t. x.version ∷ t) (versions_of-push es e key) ∙ inside (pointwise nat_eq e.key key) x.version _ _
      | false ↦ versions_of-push es e key
    ]
  where
    inside : (b : Bool) (v : Version) (s t : List Version) → v ∷ cond b s t ≡ cond b (v ∷ s) (v ∷ t)
    inside true v s t = refl
    inside false v s t = refl

-- The held set grows by an offer.
pub held-push : (es : List Entry) (e : Entry) (key : List ℕ)
    → held (es ++ e ∷ []) key ≡ cond (pointwise nat_eq e.key key) (offered e.version (held es key)) (held es key)
held-push es e key =
    ap (λ vs. maximal (set_from [] vs)) (versions_of-push es e key)
    ∙ elim (pointwise nat_eq e.key key) as
    (λ b. maximal (set_from [] (cond b (versions_of es key ++ e.version ∷ []) (versions_of es key))) ≡ cond b (offered e.version (held es key))
    (held es key)) [
      | true ↦ ap maximal (set_from-push [] (versions_of es key) e.version)
          ∙ sym (offered-maximal e.version (accepted es key) (Ascends-set_from [] (versions_of es key) tt))
      | false ↦ refl
    ]

-- at a step of a loop over the entries
pub held_more : (es : List Entry) (i : ℕ) (x : Entry) (key : List ℕ) → i < length es → x ≡ get_or es i x
    → held (take (i + 1) es) key ≡ cond (pointwise nat_eq x.key key) (offered x.version (held (take i es) key)) (held (take i es) key)
held_more es i x key h is = ap (λ t. held t key) (take_more es i x h ∙ ap (λ y. take i es ++ y ∷ []) (sym is)) ∙ held-push (take i es) x key

-- at a step of a loop that offers an entry's version
pub held_took : (es : List Entry) (i : ℕ) (x : Entry) (key : List ℕ) (old new : List Version) (v : Version) → i < length es → x ≡ get_or es i x
    → pointwise nat_eq x.key key ≡ true
    → old ≡ held (take i es) key → v ≡ x.version → new ≡ offered v old → new ≡ held (take (i + 1) es) key
held_took es i x key old new v h is same was copy took =
    took ∙ (λ k. offered (copy k) (was k))
    ∙ sym (held_more es i x key h is ∙ ap (λ b. cond b (offered x.version (held (take i es) key)) (held (take i es) key)) same)

-- at a step of a loop that passes an entry over
pub held_passed : (es : List Entry) (i : ℕ) (x : Entry) (key : List ℕ) (old : List Version) → i < length es → x ≡ get_or es i x
    → pointwise nat_eq x.key key ≡ false
    → old ≡ held (take i es) key → old ≡ held (take (i + 1) es) key
held_passed es i x key old h is other was =
    was ∙ sym (held_more es i x key h is ∙ ap (λ b. cond b (offered x.version (held (take i es) key)) (held (take i es) key)) other)

-- What is covered by the held set is what is covered by the accepted versions.
pub covered-held : (v : Version) (es : List Entry) (key : List ℕ) → covered v (held es key) ≡ covered v (versions_of es key)
covered-held v es key = covered-maximal v (accepted es key) ∙ any-set_from (λ w. is_same v w || is_below v w) [] (versions_of es key)
    ∙ or-false (covered v (versions_of es key))
  where
    or-false : (b : Bool) → (b || false) ≡ b
    or-false true = refl
    or-false false = refl

-- An entry that the held set does not cover is news.
pub AreNewsAfter-push : (before es : List Entry) (e : Entry) → AreNewsAfter before es → covered e.version (versions_of (before ++ es) e.key) ≡ false
    → AreNewsAfter before (es ++ e ∷ [])
AreNewsAfter-push before [] e news new = (subst (λ t. covered e.version (versions_of t e.key) ≡ false) (append-nil before) new, tt)
AreNewsAfter-push before (x ∷ es) e news new = (
  news.0,
  AreNewsAfter-push (before ++ x ∷ []) es e news.1
      (subst (λ t. covered e.version (versions_of t e.key) ≡ false) (sym (append_assoc before (x ∷ []) es)) new),
)

-- the same where the entry's key is spelled out
pub AreNews-push : (es : List Entry) (e : Entry) → AreNews es → covered e.version (versions_of es e.key) ≡ false → AreNews (es ++ e ∷ [])
AreNews-push es e news new = AreNewsAfter-push [] es e news new

-- the entry at the end has the next number
pub AreNumberedFrom-push : (n : ℕ) (es : List Entry) (e : Entry) → AreNumberedFrom n es → e.number ≡ n + length es → AreNumberedFrom n (es ++ e ∷ [])
AreNumberedFrom-push n [] e all is = (is ∙ add-zero n, tt)
AreNumberedFrom-push n (x ∷ es) e all is = (all.0, AreNumberedFrom-push (n + 1) es e all.1 (omega arith))

-- entries with the next numbers at the end
pub AreNumberedFrom-append : (n : ℕ) (es fs : List Entry) → AreNumberedFrom n es → AreNumberedFrom (n + length es) fs → AreNumberedFrom n (es ++ fs)
AreNumberedFrom-append n [] fs all more = subst (λ (m : ℕ). AreNumberedFrom m fs) (add-zero n) more
AreNumberedFrom-append n (x ∷ es) fs all more =
    (all.0, AreNumberedFrom-append (n + 1) es fs all.1 (subst (λ (m : ℕ). AreNumberedFrom m fs) (omega arith) more))

pub contains_cons : {X : Type 0} (y : X) (ys : List X) (x : X) → Contains (y ∷ ys) x → (y ≡ x) ⊎ Contains ys x
contains_cons y ys x (zero, h, e) = inl e
contains_cons y ys x (suc k, h, e) = inr (k, omega arith, e)

pub any_cons : {X : Type 0} (P : X → Type 0) (y : X) (ys : List X) → Any P (y ∷ ys) → P y ⊎ Any P ys
any_cons P y ys (zero, x, h, e, p) = inl (subst P (sym e) p)
any_cons P y ys (suc k, x, h, e, p) = inr (k, x, omega arith, e, p)

pub contains_later : {X : Type 0} (y : X) (ys : List X) (x : X) → Contains ys x → Contains (y ∷ ys) x
contains_later y ys x c = (suc c.0, omega (arith, c.1), c.2)

pub any_later : {X : Type 0} (P : X → Type 0) (y : X) (ys : List X) → Any P ys → Any P (y ∷ ys)
any_later P y ys a = (suc a.0, a.1, omega (arith, a.2), a.3, a.4)

-- the versions of a key are those of the entries with that key
versions-entries : (es : List Entry) (key : List ℕ) (v : Version) → Contains (versions_of es key) v ↔ Any (λ e. (e.key ≡ key) × (e.version ≡ v)) es
versions-entries [] key v = ((λ c. absurd (omega (arith, c.1))), (λ a. absurd (omega (arith, a.2))))
versions-entries (x ∷ es) key v = by_key (pointwise nat_eq x.key key) (bytes_eq-Decides x.key key) (versions-entries es key v)
  where
    by_key : (b : Bool) → Decides b (x.key ≡ key) → (Contains (versions_of es key) v ↔ Any (λ e. (e.key ≡ key) × (e.version ≡ v)) es)
        → Contains (cond b (x.version ∷ versions_of es key) (versions_of es key)) v ↔ Any (λ e. (e.key ≡ key) × (e.version ≡ v)) (x ∷ es)
    by_key true same rest = (
      (λ c. elim (contains_cons x.version (versions_of es key) v c) [
        | inl e ↦ (0, x, omega arith, refl, (same.0 refl, e))
        | inr later ↦ any_later (λ e. (e.key ≡ key) × (e.version ≡ v)) x es (rest.0 later)
      ]),
      (λ a. elim (any_cons (λ e. (e.key ≡ key) × (e.version ≡ v)) x es a) [
        | inl here ↦ (0, omega arith, here.1)
        | inr later ↦ contains_later x.version (versions_of es key) v (rest.1 later)
      ]),
    )
    by_key false other rest = (
      (λ c. any_later (λ e. (e.key ≡ key) × (e.version ≡ v)) x es (rest.0 c)),
      (λ a. elim (any_cons (λ e. (e.key ≡ key) × (e.version ≡ v)) x es a) [
        | inl here ↦ absurd (true≢false (sym (other.1 here.0)))
        | inr later ↦ rest.1 later
      ]),
    )

-- a version is in a list where the test of its text finds it
contains-same : (S : List Version) (v : Version) → Contains S v ↔ (list_any (is_same v) S ≡ true)
contains-same S v = (
  (λ c. list_any-from_Any (is_same v) S (c.0, v, c.1, c.2, ap is_eq (tied_itself version_total v))),
  (λ e. let a = Any-from_list_any (is_same v) S e in (a.0, a.2, subst (λ w. get_or S a.0 w ≡ w) (sym (is_same-exact v a.1 a.4)) a.3)),
)

pub accepted-entries : (es : List Entry) (key : List ℕ) (v : Version) → Contains (accepted es key) v ↔ Any (λ e. (e.key ≡ key) × (e.version ≡ v)) es
accepted-entries es key v =
    let one = contains-same (accepted es key) v in
    let two = contains-same (versions_of es key) v in
    let alike : list_any (is_same v) (accepted es key) ≡ list_any (is_same v) (versions_of es key) = any-set_from (is_same v) [] (versions_of es key)
    ∙ or-false (list_any (is_same v) (versions_of es key)) in
    let listed = versions-entries es key v in
    ((λ c. listed.0 (two.1 (sym alike ∙ one.0 c))), (λ a. one.1 (alike ∙ two.0 (listed.1 a))))
  where
    or-false : (b : Bool) → (b || false) ≡ b
    or-false true = refl
    or-false false = refl

-- a set of at most 64 after an offer: the offer is not refused
fits : (v : Version) (S : List Version) → length (offered v S) ≤ 64 → offer_fault v S ≡ None
fits v S h = elim (covered v S) as (λ b. length (cond b S (maximal (with_version v S))) ≤ 64
    → cond b None (cond (ltb 64 (length (maximal (with_version v S)))) (Some Crowded) None) ≡ None) [
      | true ↦ λ k. refl
      | false ↦ λ k. rw (le-ltb 64 (length (maximal (with_version v S))) k) refl
    ] h

-- at a step of a loop over the entries: the offer of an entry's version is not refused
pub never_refused : (es : List Entry) (i : ℕ) (x : Entry) (key : List ℕ) (old : List Version) (v : Version) → i < length es → x ≡ get_or es i x
    → pointwise nat_eq x.key key ≡ true
    → old ≡ held (take i es) key → v ≡ x.version → NeverCrowded es key → offer_fault v old ≡ None
never_refused es i x key old v h is same was copy never =
    fits v old (subst (λ T. length T ≤ 64) (sym (held_took es i x key old (offered v old) v h is same was copy refl)) (never (i + 1)))

-- a reserve that was not refused
pub record Reserved (log new : Log) (k : ℕ) : Type 0 where
  pub within : length log.entries + k ≤ log.limit
  pub is : new ≡ record log { room = max log.room k }

pub reserve_ok : (log new : Log) (k : ℕ) → reserve log k ≡ gives tt new → Reserved log new k
reserve_ok log new k e = elim (cases_lt log.limit (length log.entries + k)) [
  | inl full ↦ absurd (let no = rw (lt-ltb log.limit (length log.entries + k) full) at e in cc)
  | inr room ↦ let same = rw (le-ltb log.limit (length log.entries + k) room) at e in record { within = room; is = cc }
]

-- and one that was
pub reserve_err : (log : Log) (k : ℕ) (e : Refusal) → reserve log k ≡ refuses e → (log.limit < length log.entries + k) × (e ≡ JournalFull)
reserve_err log k e is = elim (cases_lt log.limit (length log.entries + k)) [
  | inl full ↦ let same = rw (lt-ltb log.limit (length log.entries + k) full) at is in (full, cc)
  | inr room ↦ absurd (let no = rw (le-ltb log.limit (length log.entries + k) room) at is in cc)
]
