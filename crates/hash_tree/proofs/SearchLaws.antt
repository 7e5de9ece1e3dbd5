-- Where a binary search finds the row of a key, or the place for it.
use Rattle.std.proofs.Common.{◌≡◌, inl, inr, ℕ, zero, suc, ◌<◌, ◌≤◌, set, List, [], ◌∷◌, ◌++◌, length, take, drop, get_or, refl, ap, subst, arith}
use Rattle.std.proofs.Common.{Result, Ok, Err}
use Rattle.std.specs.List.{AllWithin}
use Rattle.std.specs.List.Sorted.{IsBinarySearchResult, IsSearchInRange, IsNonDecreasingBy}
use Rattle.std.specs.declared.cmp.Ordering.{Ordering}
use Rattle.std.specs.declared.cmp.Ordering.TheVariants.{Less, Equal, Greater}
use Rattle.std.specs.Ordering.{ordering_index}
use Rattle.std.proofs.lemmas.Bool.{cases_eq}
use Rattle.version_set.specs.declared.version.Version.{Version}
use Rattle.version_set.specs.Version.{offered}
use Rattle.row_bytes.specs.declared.row.Row.{Row}
use Rattle.hash_tree.specs.Leaves.{key_cmp, AscendByKey, with_offer, versions_in, IsPlace}
use Rattle.hash_tree.proofs.KeyLaws.{key_exact, turned, less_trans, all_get, ascend_pair}

abbrev row_cmp : List ℕ → Row → Ordering
row_cmp k r = key_cmp r.key k

-- ---- no row of the key

between_offers : (rows : List Row) (i : ℕ) (k : List ℕ) (v : Version) → i ≤ length rows → AllWithin (λ (r : Row). row_cmp k r ≡ Less) rows 0 i
    → AllWithin (λ (r : Row). row_cmp k r ≡ Greater) rows i (length rows)
    → with_offer k v rows ≡ take i rows ++ record { key = k; versions = offered v [] } ∷ drop i rows
between_offers [] zero k v within low high = refl
between_offers [] (suc i) k v within low high = absurd (omega arith)
between_offers (r ∷ rows) zero k v within low high = rw (turned r.key k Greater (high 0 r (omega arith) (omega arith))) refl
between_offers (r ∷ rows) (suc i) k v within low high =
    rw (turned r.key k Less (low 0 r (omega arith) (omega arith)))
    (ap (λ t. r ∷ t) (between_offers rows i k v (omega arith) (λ j d from below. low (suc j) d (omega arith) (omega arith))
    (λ j d from below. high (suc j) d (omega arith) (omega arith))))

between_holds : (rows : List Row) (i : ℕ) (k : List ℕ) → i ≤ length rows → AllWithin (λ (r : Row). row_cmp k r ≡ Less) rows 0 i
    → AllWithin (λ (r : Row). row_cmp k r ≡ Greater) rows i (length rows) → versions_in k rows ≡ []
between_holds [] i k within low high = refl
between_holds (r ∷ rows) zero k within low high = rw (turned r.key k Greater (high 0 r (omega arith) (omega arith))) refl
between_holds (r ∷ rows) (suc i) k within low high =
    rw (turned r.key k Less (low 0 r (omega arith) (omega arith)))
    (between_holds rows i k (omega arith) (λ j d from below. low (suc j) d (omega arith) (omega arith))
    (λ j d from below. high (suc j) d (omega arith) (omega arith)))

-- ---- the row of the key

-- a row before that of the key is less
before : (k : List ℕ) (r : Row) (rows : List Row) (i : ℕ) (d : Row) → AscendByKey (r ∷ rows) → i < length rows → row_cmp k (get_or rows i d) ≡ Equal
    → key_cmp k r.key ≡ Greater
before k r rows i d a within e =
    turned r.key k Less (subst (λ (x : List ℕ). key_cmp r.key x ≡ Less) (key_exact (get_or rows i d).key k e)
    (all_get (λ (x : Row). key_cmp r.key x.key ≡ Less) rows i d a.0 within))

here_offers : (rows : List Row) (i : ℕ) (k : List ℕ) (v : Version) (d : Row) → AscendByKey rows → i < length rows
    → row_cmp k (get_or rows i d) ≡ Equal
    → with_offer k v rows ≡ set rows i (record { key = (get_or rows i d).key; versions = offered v (get_or rows i d).versions })
here_offers [] i k v d a within e = absurd (omega arith)
here_offers (r ∷ rows) zero k v d a within e = rw (turned r.key k Equal e) refl
here_offers (r ∷ rows) (suc i) k v d a within e =
    rw (before k r rows i d a (omega arith) e) (ap (λ t. r ∷ t) (here_offers rows i k v d a.1 (omega arith) e))

here_holds : (rows : List Row) (i : ℕ) (k : List ℕ) (d : Row) → AscendByKey rows → i < length rows → row_cmp k (get_or rows i d) ≡ Equal
    → versions_in k rows ≡ (get_or rows i d).versions
here_holds [] i k d a within e = absurd (omega arith)
here_holds (r ∷ rows) zero k d a within e = rw (turned r.key k Equal e) refl
here_holds (r ∷ rows) (suc i) k d a within e = rw (before k r rows i d a (omega arith) e) (here_holds rows i k d a.1 (omega arith) e)

-- ---- the search

-- where a key is less than another, so is how they compare with a third one
rising : (a b k : List ℕ) → key_cmp a b ≡ Less → ordering_index (key_cmp a k) ≤ ordering_index (key_cmp b k)
rising a b k less = elim (key_cmp a k) as (λ o. key_cmp a k ≡ o → ordering_index o ≤ ordering_index (key_cmp b k)) [
  | Less ↦ λ o. omega arith
  | Equal ↦ λ o. rw (greater (subst (λ (x : List ℕ). key_cmp x b ≡ Less) (key_exact a k o) less)) (omega arith)
  | Greater ↦ λ o. rw (greater (less_trans k a b (turned a k Greater o) less)) (omega arith)
] refl
  where
    greater : key_cmp k b ≡ Less → key_cmp b k ≡ Greater
    greater h = turned k b Less h

sorted : (rows : List Row) (k : List ℕ) → AscendByKey rows → IsNonDecreasingBy (λ (r : Row). ordering_index (row_cmp k r)) rows
sorted rows k a i j d le within = elim (cases_eq i j) [
  | inl same ↦ subst (λ (n : ℕ). ordering_index (row_cmp k (get_or rows i d)) ≤ ordering_index (row_cmp k (get_or rows n d))) same (omega arith)
  | inr other ↦ rising (get_or rows i d).key (get_or rows j d).key k (ascend_pair rows i j d a (omega (arith, other)) within)
]

-- What a binary search finds is the row of the key, or the place for it.
pub found : (rows : List Row) (k : List ℕ) (r : Result ℕ ℕ) → AscendByKey rows → IsSearchInRange r (length rows)
    → IsBinarySearchResult (row_cmp k) rows r → IsPlace k rows r
found rows k (Ok i) a within at = record {
  within = within;
  key = λ d. key_exact (get_or rows i d).key k (at d);
  offers = λ v d. here_offers rows i k v d a within (at d);
  holds = λ d. here_holds rows i k d a within (at d);
}
found rows k (Err i) a within at =
    let parted = at (sorted rows k a) in
    record {
      within = within;
      offers = λ v. between_offers rows i k v within parted.0 parted.1;
      holds = between_holds rows i k within parted.0 parted.1;
    }
