-- Each row has a text, and has one after an offer too.
use Rattle.std.proofs.Common.{◌≡◌, ℕ, ◌≤◌, cond, Some, None, List, [], ◌∷◌, length, refl, arith, inl, inr}
use Rattle.std.specs.Prelude.{nat_lt}
use Rattle.std.specs.List.{AllByRecursion}
use Rattle.std.specs.declared.cmp.Ordering.TheVariants.{Less, Equal, Greater}
use Rattle.std.proofs.lemmas.Bool.{cases_Bool, cases_lt, lt-ltb}
use Rattle.vclock.specs.Clock.{IsClock}
use Rattle.vclock.specs.Bytes.{key_fault}
use Rattle.vclock.specs.declared.format.Format.{Format}
use Rattle.vclock.specs.declared.refusal.Refusal.TheVariants.{Crowded}
use Rattle.version_set.specs.Kind.{value_fault}
use Rattle.version_set.specs.Order.{place_by}
use Rattle.version_set.specs.Version.{covered, maximal, with_version, offered, offer_fault, IsVersionSet}
use Rattle.version_set.specs.declared.version.Version.{Version}
use Rattle.version_set.proofs.SetLaws.{grown, length-grown, maximal-with_version}
use Rattle.row_bytes.specs.Rows.{IsRow}
use Rattle.row_bytes.specs.declared.row.Row.{Row}
use Rattle.row_bytes.proofs.RowSetLaws.{set_row, row_set, row_fits}
use Rattle.hash_tree.specs.Leaves.{key_cmp, with_offer, versions_in}
use Rattle.hash_tree.proofs.RowLengthLaws.{fits-offered}

-- no version is a set
no_member : IsVersionSet []
no_member = record { ascending = tt; own_maximum = refl; short = omega arith; valid = tt }

-- no more versions than may be are held after an offer that there is room for
pub offered_short : (v : Version) (S : List Version) → length S ≤ 64 → offer_fault v S ≡ None → length (offered v S) ≤ 64
offered_short v S short fits = elim (cases_Bool (covered v S)) [
  | inl known ↦ rw known short
  | inr news ↦ rw news (few (length (maximal (with_version v S))) (rw news at fits))
]
  where
    few : (n : ℕ) → cond (nat_lt 64 n) (Some Crowded) None ≡ None → n ≤ 64
    few n h = elim (cases_lt 64 n) [
      | inl more ↦ absurd (let no : Some Crowded ≡ None = rw (lt-ltb 64 n more) at h in cc)
      | inr fine ↦ fine
    ]

-- a set of versions after an offer that it has room for
set_offered : (v : Version) (S : List Version) → IsClock v.clock → IsVersionSet S → offer_fault v S ≡ None → IsVersionSet (offered v S)
set_offered v S clock set fits = elim (cases_Bool (covered v S)) [
  | inl known ↦ rw known set
  | inr news ↦
      let room : length (maximal (with_version v S)) ≤ 64 = rw news at (offered_short v S set.short fits) in
      rw news (rw (maximal-with_version v S set.ascending set.own_maximum news)
      (grown v S clock set news (omega (arith, room, length-grown v S set news))))
]

-- a row after an offer to its set
row_offered : (format : Format) (k : List ℕ) (v : Version) (S : List Version) → key_fault k ≡ None → value_fault format v.kind v.value ≡ None
    → IsClock v.clock → offer_fault v S ≡ None
    → IsVersionSet S → AllByRecursion (λ (u : Version). value_fault format u.kind u.value ≡ None) S
    → IsRow format (record { key = k; versions = offered v S })
row_offered format k v S key value clock fits set each =
    set_row format (record { key = k; versions = offered v S }) (set_offered v S clock set fits) (fits-offered format k v S key value each)

-- Rows still have a text after an offer.
pub rows_offered : (format : Format) (k : List ℕ) (v : Version) (rows : List Row) → key_fault k ≡ None → value_fault format v.kind v.value ≡ None
    → IsClock v.clock → offer_fault v (versions_in k rows) ≡ None
    → AllByRecursion (IsRow format) rows → AllByRecursion (IsRow format) (with_offer k v rows)
rows_offered format k v [] key value clock fits all = (row_offered format k v [] key value clock fits no_member tt, tt)
rows_offered format k v (r ∷ rows) key value clock fits all =
    elim (key_cmp k r.key) as (λ o. offer_fault v (place_by o [] r.versions (versions_in k rows)) ≡ None
    → AllByRecursion (IsRow format)
    (place_by o (record { key = k; versions = offered v [] } ∷ r ∷ rows) (record { key = r.key; versions = offered v r.versions } ∷ rows)
    (r ∷ with_offer k v rows))) [
      | Less ↦ λ f. (row_offered format k v [] key value clock f no_member tt, all)
      | Equal ↦ λ f. (row_offered format r.key v r.versions all.0.key value clock f (row_set format r all.0) (row_fits format r all.0).each, all.1)
      | Greater ↦ λ f. (all.0, rows_offered format k v rows key value clock f all.1)
    ] fits
