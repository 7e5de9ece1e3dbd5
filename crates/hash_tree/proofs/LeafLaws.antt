-- What an offer changes in the leaves that rows are shared out to.
use Rattle.std.proofs.Common.{◌≡◌, ℕ, zero, suc, ◌≤◌, true, false, cond, List, [], ◌∷◌, length, None, refl, ap, subst, sym, ◌∙◌, arith}
use Rattle.std.proofs.lemmas.Bool.Decides.{nat_tests}
use Rattle.std.specs.Prelude.{nat_eq}
use Rattle.std.specs.List.{AllByRecursion, Contains}
use Rattle.std.specs.declared.cmp.Ordering.TheVariants.{Less, Equal, Greater}
use Rattle.version_set.specs.declared.version.Version.{Version}
use Rattle.version_set.specs.Order.{place_by}
use Rattle.version_set.specs.Version.{offered}
use Rattle.version_set.proofs.ListLaws.{all-filter}
use Rattle.vclock.specs.declared.format.Format.{Format}
use Rattle.row_bytes.specs.declared.row.Row.{Row}
use Rattle.row_bytes.specs.Rows.{FitsText}
use Rattle.hash_tree.specs.Leaves.{key_cmp, AscendByKey, FindsRun, rows_in_leaf, with_offer, versions_in}
use Rattle.hash_tree.proofs.KeyLaws.{key_exact, turned, same_key, all_get, less_rows}

pub offer_first : (k : List ℕ) (v : Version) (rows : List Row) → AllByRecursion (λ (y : Row). key_cmp k y.key ≡ Less) rows
    → with_offer k v rows ≡ record { key = k; versions = offered v [] } ∷ rows
offer_first k v [] h = refl
offer_first k v (r ∷ rows) h = rw h.0 refl

pub in_first : (k : List ℕ) (rows : List Row) → AllByRecursion (λ (y : Row). key_cmp k y.key ≡ Less) rows → versions_in k rows ≡ []
in_first k [] h = refl
in_first k (r ∷ rows) h = rw h.0 refl

-- An offer changes the rows of the key's own leaf alone.
pub rows_at-with_offer : (leaf : List ℕ → ℕ) (i : ℕ) (k : List ℕ) (v : Version) (rows : List Row) → AscendByKey rows
    → rows_in_leaf leaf i (with_offer k v rows) ≡ cond (nat_eq (leaf k) i) (with_offer k v (rows_in_leaf leaf i rows)) (rows_in_leaf leaf i rows)
rows_at-with_offer leaf i k v [] a = refl
rows_at-with_offer leaf i k v (r ∷ rows) a =
    elim (key_cmp k r.key) as
    (λ o. key_cmp k r.key ≡ o
    → rows_in_leaf leaf i (place_by o (record { key = k; versions = offered v [] } ∷ r ∷ rows)
    (record { key = r.key; versions = offered v r.versions } ∷ rows) (r ∷ with_offer k v rows)) ≡ cond (nat_eq (leaf k) i)
    (with_offer k v (rows_in_leaf leaf i (r ∷ rows))) (rows_in_leaf leaf i (r ∷ rows))) [
      | Less ↦ λ o.
          let all = all-filter (λ (x : Row). key_cmp k x.key ≡ Less) (λ (x : Row). nat_eq (leaf x.key) i) (r ∷ rows)
          (o, less_rows k r.key rows o a.0) in
          ap (λ (t : List Row). cond (nat_eq (leaf k) i) t (rows_in_leaf leaf i (r ∷ rows)))
          (sym (offer_first k v (rows_in_leaf leaf i (r ∷ rows)) all))
      | Equal ↦ λ o.
          let there : nat_eq (leaf k) i ≡ nat_eq (leaf r.key) i = ap (λ (x : List ℕ). nat_eq (leaf x) i) (key_exact k r.key o) in
          rw there (elim (nat_eq (leaf r.key) i) as
          (λ b. cond b (record { key = r.key; versions = offered v r.versions } ∷ rows_in_leaf leaf i rows) (rows_in_leaf leaf i rows) ≡ cond b
          (with_offer k v (cond b (r ∷ rows_in_leaf leaf i rows) (rows_in_leaf leaf i rows)))
          (cond b (r ∷ rows_in_leaf leaf i rows) (rows_in_leaf leaf i rows))) [ true ↦ rw o refl | false ↦ refl ])
      | Greater ↦ λ o.
          let rest = rows_at-with_offer leaf i k v rows a.1 in
          elim (nat_eq (leaf r.key) i) as
          (λ b. cond b (r ∷ rows_in_leaf leaf i (with_offer k v rows)) (rows_in_leaf leaf i (with_offer k v rows)) ≡ cond (nat_eq (leaf k) i)
          (with_offer k v (cond b (r ∷ rows_in_leaf leaf i rows) (rows_in_leaf leaf i rows)))
          (cond b (r ∷ rows_in_leaf leaf i rows) (rows_in_leaf leaf i rows))) [
            | true ↦ ap (λ t. r ∷ t) rest
                ∙ elim (nat_eq (leaf k) i) as
                (λ c. r ∷ cond c (with_offer k v (rows_in_leaf leaf i rows)) (rows_in_leaf leaf i rows) ≡ cond c
                (with_offer k v (r ∷ rows_in_leaf leaf i rows)) (r ∷ rows_in_leaf leaf i rows)) [ true ↦ rw o refl | false ↦ refl ]
            | false ↦ rest
          ]
    ] refl

-- What the rows have for the key of a row are its versions.
pub held_by_row : (rows : List Row) (r : Row) → AscendByKey rows → Contains rows r → versions_in r.key rows ≡ r.versions
held_by_row [] r a has = absurd (omega (arith, has.1))
held_by_row (x ∷ rows) r a (zero, within, is) =
    subst (λ (y : Row). place_by (key_cmp r.key y.key) [] y.versions (versions_in r.key rows) ≡ r.versions) (sym is) (rw (same_key r.key) refl)
held_by_row (x ∷ rows) r a (suc i, within, is) =
    let less : key_cmp x.key r.key ≡ Less = subst (λ (y : Row). key_cmp x.key y.key ≡ Less) is
    (all_get (λ (y : Row). key_cmp x.key y.key ≡ Less) rows i r a.0 (omega (arith, within))) in
    rw (turned x.key r.key Less less) (held_by_row rows r a.1 (i, omega (arith, within), is))

-- Rows within the limits of a format have a version each.
pub some_each : (format : Format) (rows : List Row) → AllByRecursion (FitsText format) rows → AllByRecursion (λ (r : Row). 1 ≤ length r.versions) rows
some_each format [] all = tt
some_each format (r ∷ rows) all = (all.0.some, some_each format rows all.1)

-- A key for which the rows have no versions has no row, as each row has one at least.
pub no_row : (k : List ℕ) (rows : List Row) → AscendByKey rows → AllByRecursion (λ (r : Row). 1 ≤ length r.versions) rows → versions_in k rows ≡ []
    → FindsRun rows k None
no_row k rows a each none r has same =
    let some : 1 ≤ length r.versions = subst (λ (y : Row). 1 ≤ length y.versions) has.2
    (all_get (λ (y : Row). 1 ≤ length y.versions) rows has.0 r each has.1) in
    omega (arith, some, ap length (sym (held_by_row rows r a has) ∙ ap (λ (key : List ℕ). versions_in key rows) same ∙ none))

-- What the rows of a key's own leaf have for it is what all rows have.
pub versions_in-rows_at : (leaf : List ℕ → ℕ) (k : List ℕ) (rows : List Row) → AscendByKey rows
    → versions_in k (rows_in_leaf leaf (leaf k) rows) ≡ versions_in k rows
versions_in-rows_at leaf k [] a = refl
versions_in-rows_at leaf k (r ∷ rows) a =
    elim (key_cmp k r.key) as
    (λ o. key_cmp k r.key ≡ o → versions_in k (rows_in_leaf leaf (leaf k) (r ∷ rows)) ≡ place_by o [] r.versions (versions_in k rows)) [
      | Less ↦ λ o. in_first k (rows_in_leaf leaf (leaf k) (r ∷ rows))
          (all-filter (λ (x : Row). key_cmp k x.key ≡ Less) (λ (x : Row). nat_eq (leaf x.key) (leaf k)) (r ∷ rows) (o, less_rows k r.key rows o a.0))
      | Equal ↦ λ o.
          let there : nat_eq (leaf r.key) (leaf k) ≡ true = ap (λ (x : List ℕ). nat_eq (leaf x) (leaf k)) (sym (key_exact k r.key o))
          ∙ eq_itself (leaf k) in
          rw (there, o) refl
      | Greater ↦ λ o.
          let rest = versions_in-rows_at leaf k rows a.1 in
          elim (nat_eq (leaf r.key) (leaf k)) as
          (λ b. versions_in k (cond b (r ∷ rows_in_leaf leaf (leaf k) rows) (rows_in_leaf leaf (leaf k) rows)) ≡ versions_in k rows) [
            | true ↦ rw o rest
            | false ↦ rest
          ]
    ] refl
  where
    eq_itself : (n : ℕ) → nat_eq n n ≡ true
    eq_itself n = grind (arith, nat_tests)
