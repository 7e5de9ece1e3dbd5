-- Versions in ascending order of their texts, none below another, are what a set holds, and the other way round.
use Rattle.std.proofs.Common.{◌≡◌, ℕ, ◌≤◌, Bool, true, false, not, cond, List, [], ◌∷◌, length, filter, None, refl, ap, sym, subst, ◌∙◌, arith}
use Rattle.std.proofs.lemmas.Bool.{and_parts, and_from, or_parts, or_from, not-true, not_from_false}
use Rattle.std.specs.List.{list_any, AllByRecursion}
use Rattle.std.specs.declared.cmp.Ordering.{Ordering}
use Rattle.std.specs.declared.cmp.Ordering.TheVariants.{Less, Equal, Greater}
use Rattle.std.specs.Ordering.{is_lt}
use Rattle.vclock.specs.Clock.{IsClock}
use Rattle.vclock.specs.declared.format.Format.{Format}
use Rattle.vclock.specs.declared.format.Format.TheVariants.{One, Two}
use Rattle.version_set.specs.Kind.{value_fault}
use Rattle.version_set.specs.declared.kind.Kind.{Kind}
use Rattle.version_set.specs.declared.kind.Kind.TheVariants.{Live, Tombstone}
use Rattle.version_set.specs.declared.version.Version.{Version}
use Rattle.version_set.specs.Version.{is_below, maximal, version_cmp, version_text, text_cmp, Ascends, IsVersionSet, HasText}
use Rattle.version_set.proofs.ListLaws.{less_all}
use Rattle.version_set.proofs.SetLaws.{is_below-itself, version_total}
use Rattle.version_set.proofs.TextOrderLaws.{text_cmp-is, live_cmp-is}
use Rattle.row_bytes.specs.declared.row.Row.{Row}
use Rattle.row_bytes.specs.Rows.{is_before, is_apart, IsVersion, AreAscending, AreApart, IsRow, FitsText}
use Rattle.row_bytes.proofs.LimitLaws.{value_short}

-- what is smaller is Less
less_of : (o : Ordering) → is_lt o ≡ true → o ≡ Less
less_of Less e = refl
less_of Equal e = absurd cc
less_of Greater e = absurd cc

-- a version within the limits has a text
has_text : (format : Format) (v : Version) → IsVersion format v → HasText v
has_text format v h = let short = value_short format v.kind v.value h.value in record { clock = h.clock; value = omega (arith, short) }

-- format 1 has live versions alone
live_of : (kind : Kind) (value : List ℕ) → value_fault One kind value ≡ None → kind ≡ Live
live_of Live value h = refl
live_of Tombstone value h = absurd cc

-- the texts of a format lie as the fields do
cmp-is : (format : Format) (v w : Version) → IsVersion format v → IsVersion format w → text_cmp format v w ≡ version_cmp v w
cmp-is One v w hv hw = live_cmp-is v w (has_text One v hv) (has_text One w hw) (live_of v.kind v.value hv.value) (live_of w.kind w.value hw.value)
cmp-is Two v w hv hw = text_cmp-is v w (has_text Two v hv) (has_text Two w hw)

-- versions whose texts ascend, each against the one before it, ascend
ascends_after : (format : Format) (v : Version) (vs : List Version) → IsVersion format v → AllByRecursion (IsVersion format) vs
    → AreAscending format (version_text format v) vs → Ascends (v ∷ vs)
ascends_after format v [] hv each up = (tt, tt)
ascends_after format v (w ∷ vs) hv each up =
    let rest = ascends_after format w vs each.0 each.1 up.1 in
    let less : version_cmp v w ≡ Less = sym (cmp-is format v w hv each.0) ∙ less_of (text_cmp format v w) up.0 in
    ((less, less_all version_cmp version_total v w vs less rest.0), rest)

-- versions whose texts ascend are in the order of a set
ascends : (format : Format) (last : List ℕ) (vs : List Version) → AllByRecursion (IsVersion format) vs → AreAscending format last vs → Ascends vs
ascends format last [] each up = tt
ascends format last (v ∷ vs) each up = ascends_after format v vs each.0 each.1 up.1

-- the empty text stands before each version's
first_before : (format : Format) (v : Version) → is_before [] (version_text format v) ≡ true
first_before One v = refl
first_before Two v = refl

-- versions that ascend have texts that ascend
texts_after : (format : Format) (v : Version) (vs : List Version) → IsVersion format v → AllByRecursion (IsVersion format) vs → Ascends (v ∷ vs)
    → AreAscending format (version_text format v) vs
texts_after format v [] hv each up = tt
texts_after format v (w ∷ vs) hv each up =
    (ap is_lt (cmp-is format v w hv each.0 ∙ up.0.0), texts_after format w vs each.0 each.1 up.1)

-- versions in the order of a set have texts that ascend
texts_ascend : (format : Format) (vs : List Version) → AllByRecursion (IsVersion format) vs → Ascends vs → AreAscending format [] vs
texts_ascend format [] each up = tt
texts_ascend format (v ∷ vs) each up = (first_before format v, texts_after format v vs each.0 each.1 up)

-- ---- none below another

-- what follows from two facts on each item
both_each : {X : Type 0} (P Q R : X → Type 0) → ((x : X) → P x → Q x → R x) → (xs : List X) → AllByRecursion P xs → AllByRecursion Q xs
    → AllByRecursion R xs
both_each P Q R f [] p q = tt
both_each P Q R f (x ∷ xs) p q = (f x p.0 q.0, both_each P Q R f xs p.1 q.1)

-- what follows from a fact on each item
each_also : {X : Type 0} (P R : X → Type 0) → ((x : X) → P x → R x) → (xs : List X) → AllByRecursion P xs → AllByRecursion R xs
each_also P R f [] p = tt
each_also P R f (x ∷ xs) p = (f x p.0, each_also P R f xs p.1)

-- no item passes the test
none_passes : {X : Type 0} (p : X → Bool) (xs : List X) → AllByRecursion (λ x. p x ≡ false) xs → list_any p xs ≡ false
none_passes p [] h = refl
none_passes p (x ∷ xs) h = or_from (p x) (list_any p xs) h.0 (none_passes p xs h.1)

-- a test that no item passes fails at each item
fails_at_each : {X : Type 0} (xs : List X) → AllByRecursion (λ x. (p : X → Bool) → list_any p xs ≡ false → p x ≡ false) xs
fails_at_each [] = tt
fails_at_each (x ∷ xs) = (
  λ p h. (or_parts (p x) (list_any p xs) h).0,
  each_also (λ y. (p : _ → Bool) → list_any p xs ≡ false → p y ≡ false)
      (λ y. (p : _ → Bool) → list_any p (x ∷ xs) ≡ false → p y ≡ false) (λ y f p h. f p (or_parts (p x) (list_any p xs) h).1) xs (fails_at_each xs),
)

-- a filter that each item passes keeps all
filter_keeps : {X : Type 0} (p : X → Bool) (xs : List X) → AllByRecursion (λ x. p x ≡ true) xs → filter p xs ≡ xs
filter_keeps p [] h = refl
filter_keeps p (x ∷ xs) h = rw h.0 (ap (λ t. x ∷ t) (filter_keeps p xs h.1))

-- what a filter kept passes
filter_passes : {X : Type 0} (p : X → Bool) (xs : List X) → AllByRecursion (λ x. p x ≡ true) (filter p xs)
filter_passes p [] = tt
filter_passes p (x ∷ xs) = elim (p x) as (λ b. p x ≡ b → AllByRecursion (λ y. p y ≡ true) (cond b (x ∷ filter p xs) (filter p xs))) [
  | true ↦ λ t. (t, filter_passes p xs)
  | false ↦ λ f. filter_passes p xs
] refl

-- neither of the two is below the other
apart_parts : (u v : Version) → is_apart u v ≡ true → (is_below u v ≡ false) × (is_below v u ≡ false)
apart_parts u v h = let parts = and_parts (not (is_below u v)) (not (is_below v u)) h in (not-true _ parts.0, not-true _ parts.1)

-- of versions that are apart, none is below one of them
none_is_below : (vs : List Version) → AreApart vs → AllByRecursion (λ v. list_any (is_below v) vs ≡ false) vs
none_is_below [] h = tt
none_is_below (w ∷ vs) h = (
  or_from _ _ (is_below-itself w)
      (none_passes (is_below w) vs (each_also (λ u. is_apart w u ≡ true) (λ u. is_below w u ≡ false) (λ u a. (apart_parts w u a).0) vs h.0)),
  both_each (λ v. is_apart w v ≡ true) (λ v. list_any (is_below v) vs ≡ false) (λ v. list_any (is_below v) (w ∷ vs) ≡ false)
      (λ v a none. or_from _ _ (apart_parts w v a).1 none) vs h.0 (none_is_below vs h.1),
)

-- versions that are apart are their own maximum
own_maximum : (vs : List Version) → AreApart vs → maximal vs ≡ vs
own_maximum vs h = filter_keeps (λ v. not (list_any (is_below v) vs)) vs
    (each_also (λ v. list_any (is_below v) vs ≡ false) (λ v. not (list_any (is_below v) vs) ≡ true) (λ v none. not_from_false _ none) vs
    (none_is_below vs h))

-- versions of which none is below a member of the set, and which are members, are apart
apart_among : (S vs : List Version) → AllByRecursion (λ v. list_any (is_below v) S ≡ false) vs
    → AllByRecursion (λ v. (p : Version → Bool) → list_any p S ≡ false → p v ≡ false) vs → AreApart vs
apart_among S [] none members = tt
apart_among S (v ∷ vs) none members = (
  both_each (λ u. list_any (is_below u) S ≡ false) (λ u. (p : Version → Bool) → list_any p S ≡ false → p u ≡ false) (λ u. is_apart v u ≡ true)
      (λ u free member. and_from _ _ (not_from_false _ (member (is_below v) none.0)) (not_from_false _ (members.0 (is_below u) free))) vs none.1
      members.1,
  apart_among S vs none.1 members.1,
)

-- a set's members are apart
set_apart : (S : List Version) → maximal S ≡ S → AreApart S
set_apart S own =
    let kept : AllByRecursion (λ v. not (list_any (is_below v) S) ≡ true) S = subst
    (λ T. AllByRecursion (λ v. not (list_any (is_below v) S) ≡ true) T) own (filter_passes (λ v. not (list_any (is_below v) S)) S) in
    apart_among S S (each_also (λ v. not (list_any (is_below v) S) ≡ true) (λ v. list_any (is_below v) S ≡ false) (λ v h. not-true _ h) S kept)
    (fails_at_each S)

-- ---- sets

-- the versions of a row are a set
pub set_of : (format : Format) (vs : List Version) → AllByRecursion (IsVersion format) vs → AreAscending format [] vs → AreApart vs → length vs ≤ 64
    → IsVersionSet vs
set_of format vs each up apart few = record {
  ascending = ascends format [] vs each up;
  own_maximum = own_maximum vs apart;
  short = few;
  valid = each_also (IsVersion format) (λ v. IsClock v.clock) (λ v h. h.clock) vs each;
}

-- the versions of a row are a set
pub row_set : (format : Format) (r : Row) → IsRow format r → IsVersionSet r.versions
row_set format r h = set_of format r.versions h.each h.ascending h.apart h.few

-- a set that fits a format is the versions of a row
pub set_row : (format : Format) (r : Row) → IsVersionSet r.versions → FitsText format r → IsRow format r
set_row format r set fits =
    let each : AllByRecursion (IsVersion format) r.versions = both_each (λ v. IsClock v.clock) (λ v. value_fault format v.kind v.value ≡ None)
    (IsVersion format) (λ v c f. record { clock = c; value = f }) r.versions set.valid fits.each in
    record {
      key = fits.key;
      some = fits.some;
      few = set.short;
      each = each;
      ascending = texts_ascend format r.versions each set.ascending;
      apart = set_apart r.versions set.own_maximum;
    }

-- a row has what its type does not give
pub row_fits : (format : Format) (r : Row) → IsRow format r → FitsText format r
row_fits format r h = record {
  key = h.key;
  some = h.some;
  each = each_also (IsVersion format) (λ v. value_fault format v.kind v.value ≡ None) (λ v f. f.value) r.versions h.each;
}
