-- Rows after an offer: they still have texts, and how long these are.
use Rattle.std.proofs.Common.{◌≡◌, ℕ, ◌+◌, ◌≤◌, Bool, true, false, not, cond, inl, inr, None, List, [], ◌∷◌, filter, length, refl, ap, ◌∙◌, arith}
use Rattle.std.specs.List.{AllByRecursion, flat_map, list_any}
use Rattle.std.specs.Ordering.{is_eq}
use Rattle.std.specs.declared.cmp.Ordering.TheVariants.{Less, Equal, Greater}
use Rattle.std.proofs.lemmas.Bool.{cases_Bool, or_left, or_right, both_ways}
use Rattle.std.proofs.lemmas.Cmp.{tied_itself}
use Rattle.std.proofs.lemmas.List.{length-append}
use Rattle.vclock.specs.Bytes.{key_fault}
use Rattle.vclock.specs.declared.format.Format.{Format}
use Rattle.version_set.specs.Kind.{value_fault}
use Rattle.version_set.specs.declared.version.Version.{Version}
use Rattle.version_set.specs.Order.{place_by}
use Rattle.version_set.specs.Version.{version_cmp, is_below, covered, maximal, with_version, offered, version_text}
use Rattle.version_set.proofs.SetLaws.{version_total, covered-maximal}
use Rattle.version_set.proofs.ListLaws.{all-filter, all-inserted}
use Rattle.row_bytes.specs.declared.row.Row.{Row}
use Rattle.row_bytes.specs.Rows.{row_text, FitsText}
use Rattle.row_bytes.proofs.TextLengthLaws.{row_text_len}
use Rattle.hash_tree.specs.Leaves.{key_cmp, IsBucket, with_offer}
use Rattle.hash_tree.proofs.KeyLaws.{AscendByKey-with_offer}

-- ---- what an offer keeps of the versions of a row

-- a set covers the version that was put into it
covered-with_version : (v : Version) (S : List Version) → covered v (with_version v S) ≡ true
covered-with_version v [] = or_left _ _ (or_left _ _ (ap is_eq (tied_itself version_total v)))
covered-with_version v (w ∷ S) =
    elim (version_cmp v w) as (λ o. version_cmp v w ≡ o → covered v (place_by o (v ∷ w ∷ S) (w ∷ S) (w ∷ with_version v S)) ≡ true) [
      | Less ↦ λ o. or_left _ _ (or_left _ _ (ap is_eq (tied_itself version_total v)))
      | Equal ↦ λ o. or_left _ _ (or_left _ _ (ap is_eq o))
      | Greater ↦ λ o. or_right _ _ (covered-with_version v S)
    ] refl

-- a set covers the version that was offered to it
covered-offered : (v : Version) (S : List Version) → covered v (offered v S) ≡ true
covered-offered v S = elim (cases_Bool (covered v S)) [
  | inl t ↦ rw t t
  | inr f ↦ rw f (covered-maximal v (with_version v S) ∙ covered-with_version v S)
]

-- a set that covers a version has a member
some_in : (v : Version) (S : List Version) → covered v S ≡ true → 1 ≤ length S
some_in v [] e = absurd (both_ways _ refl e)
some_in v (w ∷ S) e = omega arith

-- after an offer a set has a member
pub some-offered : (v : Version) (S : List Version) → 1 ≤ length (offered v S)
some-offered v S = some_in v (offered v S) (covered-offered v S)

-- what holds of a version and of a set holds of the set after an offer
pub all-offered : (P : Version → Type 0) (v : Version) (S : List Version) → P v → AllByRecursion P S → AllByRecursion P (offered v S)
all-offered P v S h all = elim (covered v S) as (λ b. AllByRecursion P (cond b S (maximal (with_version v S)))) [
  | true ↦ all
  | false ↦ all-filter P _ (with_version v S) (all-inserted version_cmp P v S h all)
]

-- a row has a text after an offer to its set
pub fits-offered : (format : Format) (k : List ℕ) (v : Version) (S : List Version) → key_fault k ≡ None → value_fault format v.kind v.value ≡ None
    → AllByRecursion (λ (u : Version). value_fault format u.kind u.value ≡ None) S → FitsText format (record { key = k; versions = offered v S })
fits-offered format k v S key value all = record {
  key = key;
  some = some-offered v S;
  each = all-offered (λ (u : Version). value_fault format u.kind u.value ≡ None) v S value all;
}

-- what passes a test has no longer texts
len-filter : {X : Type 0} (f : X → List ℕ) (p : X → Bool) (xs : List X) → length (flat_map f (filter p xs)) ≤ length (flat_map f xs)
len-filter f p [] = omega arith
len-filter f p (x ∷ xs) = elim (p x) as (λ b. length (flat_map f (cond b (x ∷ filter p xs) (filter p xs))) ≤ length (flat_map f (x ∷ xs))) [
  | true ↦ omega (arith, length-append (f x) (flat_map f (filter p xs)), length-append (f x) (flat_map f xs), len-filter f p xs)
  | false ↦ omega (arith, length-append (f x) (flat_map f xs), len-filter f p xs)
]

-- with one more version there is at most its text more
len-with_version : (f : Version → List ℕ) (v : Version) (S : List Version)
    → length (flat_map f (with_version v S)) ≤ length (f v) + length (flat_map f S)
len-with_version f v [] = omega (arith, length-append (f v) [])
len-with_version f v (w ∷ S) =
    elim (version_cmp v w) as
    (λ o. length (flat_map f (place_by o (v ∷ w ∷ S) (w ∷ S) (w ∷ with_version v S))) ≤ length (f v) + length (flat_map f (w ∷ S))) [
      | Less ↦ omega (arith, length-append (f v) (flat_map f (w ∷ S)))
      | Equal ↦ omega arith
      | Greater ↦ omega (arith, length-append (f w) (flat_map f (with_version v S)), length-append (f w) (flat_map f S), len-with_version f v S)
    ]

len-offered : (f : Version → List ℕ) (v : Version) (S : List Version) → length (flat_map f (offered v S)) ≤ length (f v) + length (flat_map f S)
len-offered f v S = elim (covered v S) as (λ b. length (flat_map f (cond b S (maximal (with_version v S)))) ≤ length (f v) + length (flat_map f S)) [
  | true ↦ omega arith
  | false ↦ omega (arith, len-filter f (λ w. not (list_any (is_below w) (with_version v S))) (with_version v S), len-with_version f v S)
]

-- after an offer the text of a row is longer by at most that of the version
pub row-grows : (format : Format) (k : List ℕ) (v : Version) (S : List Version)
    → length (row_text format (record { key = k; versions = offered v S })) ≤ length (row_text format (record { key = k; versions = S })) + length
    (version_text format v)
row-grows format k v S =
    omega (
      arith,
      row_text_len format (record { key = k; versions = offered v S }),
      row_text_len format (record { key = k; versions = S }),
      len-offered (version_text format) v S,
    )

-- ---- rows after an offer

-- each row has a text after an offer
pub all_fit-with_offer : (format : Format) (k : List ℕ) (v : Version) (rows : List Row) → key_fault k ≡ None
    → value_fault format v.kind v.value ≡ None → AllByRecursion (FitsText format) rows → AllByRecursion (FitsText format) (with_offer k v rows)
all_fit-with_offer format k v [] key value all = (fits-offered format k v [] key value tt, tt)
all_fit-with_offer format k v (r ∷ rows) key value all =
    elim (key_cmp k r.key) as
    (λ o. AllByRecursion (FitsText format)
    (place_by o (record { key = k; versions = offered v [] } ∷ r ∷ rows) (record { key = r.key; versions = offered v r.versions } ∷ rows)
    (r ∷ with_offer k v rows))) [
      | Less ↦ (fits-offered format k v [] key value tt, all)
      | Equal ↦ (fits-offered format r.key v r.versions all.0.key value all.0.each, all.1)
      | Greater ↦ (all.0, all_fit-with_offer format k v rows key value all.1)
    ]

-- The rows of a leaf are still in order, and still have texts, after an offer.
pub IsBucket-with_offer : (format : Format) (k : List ℕ) (v : Version) (rows : List Row) → key_fault k ≡ None
    → value_fault format v.kind v.value ≡ None → IsBucket (record { format = format; rows = rows })
    → IsBucket (record { format = format; rows = with_offer k v rows })
IsBucket-with_offer format k v rows key value b = record {
  ascending = AscendByKey-with_offer k v rows b.ascending;
  each = all_fit-with_offer format k v rows key value b.each;
}
