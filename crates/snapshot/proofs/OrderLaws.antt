-- The rows of all leaves, put in order again.
use Rattle.std.proofs.Common.{◌≡◌, ℕ, zero, suc, ◌+◌, ◌<◌, ◌≤◌, ◌^◌, false, List, [], ◌∷◌, ◌++◌, refl, ap, ◌∙◌, arith, inl, inr}
use Rattle.std.specs.Prelude.{nat_eq}
use Rattle.std.specs.List.{AllByRecursion, flat_map, range_with_len}
use Rattle.std.specs.declared.cmp.Ordering.TheVariants.{Less}
use Rattle.std.proofs.lemmas.Bool.{cases_eq, ne_eqb, eq-eqb}
use Rattle.std.proofs.lemmas.List.Folds.{flat_map-map}
use Rattle.row_bytes.specs.declared.row.Row.{Row}
use Rattle.key_ring.specs.Places.{leaf_bits, leaf_at}
use Rattle.hash_tree.specs.Leaves.{Bucket, key_cmp, AscendByKey, rows_in_leaf}
use Rattle.hash_tree.proofs.KeyLaws.{turned}
use Rattle.snapshot.specs.RowMaps.{RowMap, leaf_in}
use Rattle.snapshot.specs.Snapshots.{with_row, in_order, leaves_of, map_of}
use Rattle.vclock.specs.declared.format.Format.{Format}
use Rattle.vclock.specs.declared.format.Format.TheVariants.{One, Two}
use Rattle.version_set.proofs.ListLaws.{all-append, all-filter, all-inserted}

-- the row's key is less than that of the other
abbrev IsBefore : Row → Row → Type 0
IsBefore r x = key_cmp r.key x.key ≡ Less

-- ---- one more row

-- what holds of rows holds of them in order
all-in_order : (P : Row → Type 0) (rows : List Row) → AllByRecursion P rows → AllByRecursion P (in_order rows)
unfolding in_order
all-in_order P [] all = tt
all-in_order P (r ∷ rows) all = all-inserted (λ (r x : Row). key_cmp r.key x.key) P r (in_order rows) all.0 (all-in_order P rows all.1)

-- a row before all others stands first
first : (r : Row) (rows : List Row) → AllByRecursion (IsBefore r) rows → with_row r rows ≡ r ∷ rows
first r [] all = refl
first r (x ∷ rows) all = rw all.0 refl

first_in_order : (r : Row) (rows : List Row) → AllByRecursion (IsBefore r) rows → in_order (r ∷ rows) ≡ r ∷ in_order rows
unfolding in_order
first_in_order r rows all = first r (in_order rows) (all-in_order (IsBefore r) rows all)

-- rows that it is before may stand in front
later : (r : Row) (front rows others : List Row) → AllByRecursion (IsBefore r) front → in_order rows ≡ r ∷ in_order others
    → in_order (front ++ rows) ≡ r ∷ in_order (front ++ others)
unfolding in_order
later r [] rows others all is = is
later r (x ∷ front) rows others all is =
    ap (with_row x) (later r front rows others all.1 is) ∙ rw (turned r.key x.key Less all.0) refl

-- ---- the rows of leaves

-- the rows of so many leaves from one on
abbrev spread : (List ℕ → ℕ) → List Row → ℕ → ℕ → List Row
spread leaf rows from n = flat_map (λ i. rows_in_leaf leaf i rows) (range_with_len from n)

all-spread : (P : Row → Type 0) (leaf : List ℕ → ℕ) (rows : List Row) (n from : ℕ) → AllByRecursion P rows
    → AllByRecursion P (spread leaf rows from n)
all-spread P leaf rows zero from all = tt
all-spread P leaf rows (suc n) from all =
    all-append P (rows_in_leaf leaf from rows) (spread leaf rows (from + 1) n) (all-filter P (λ (x : Row). nat_eq (leaf x.key) from) rows all)
    (all-spread P leaf rows n (from + 1) all)

-- a row of a leaf is not in the others
not_here : (leaf : List ℕ → ℕ) (r : Row) (rows : List Row) (i : ℕ) → nat_eq (leaf r.key) i ≡ false
    → rows_in_leaf leaf i (r ∷ rows) ≡ rows_in_leaf leaf i rows
not_here leaf r rows i off = rw off refl

not_behind : (leaf : List ℕ → ℕ) (r : Row) (rows : List Row) (n from : ℕ) → leaf r.key < from
    → spread leaf (r ∷ rows) from n ≡ spread leaf rows from n
not_behind leaf r rows zero from before = refl
not_behind leaf r rows (suc n) from before =
    λ i. not_here leaf r rows from (ne_eqb (leaf r.key) from (λ e. omega arith)) i ++ not_behind leaf r rows n (from + 1) (omega arith) i

-- the first of the rows is the first of the leaves' rows in order
spread_first : (leaf : List ℕ → ℕ) (r : Row) (rows : List Row) (n from : ℕ) → AllByRecursion (IsBefore r) rows → from ≤ leaf r.key
    → leaf r.key < from + n → in_order (spread leaf (r ∷ rows) from n) ≡ r ∷ in_order (spread leaf rows from n)
spread_first leaf r rows zero from all least most = absurd (omega arith)
spread_first leaf r rows (suc n) from all least most =
    let front = rows_in_leaf leaf from rows in
    let behind = spread leaf rows (from + 1) n in
    elim (cases_eq (leaf r.key) from) [
      | inl here ↦
          let mine : rows_in_leaf leaf from (r ∷ rows) ≡ r ∷ front = rw (eq-eqb (leaf r.key) from here) refl in
          let whole : spread leaf (r ∷ rows) from (suc n) ≡ r ∷ (front ++ behind) = λ i. mine i ++ not_behind leaf r rows n (from + 1)
          (omega arith) i in
          ap in_order whole ∙ first_in_order r (front ++ behind) (all-spread (IsBefore r) leaf rows (suc n) from all)
      | inr there ↦
          let same = not_here leaf r rows from (ne_eqb (leaf r.key) from there) in
          ap (λ (t : List Row). in_order (t ++ spread leaf (r ∷ rows) (from + 1) n)) same
          ∙ later r front (spread leaf (r ∷ rows) (from + 1) n) behind (all-filter (IsBefore r) (λ (x : Row). nat_eq (leaf x.key) from) rows all)
          (spread_first leaf r rows n (from + 1) all (omega arith) (omega arith))
    ]

spread_none : (leaf : List ℕ → ℕ) (n from : ℕ) → in_order (spread leaf [] from n) ≡ []
unfolding in_order
spread_none leaf zero from = refl
spread_none leaf (suc n) from = spread_none leaf n (from + 1)

-- The rows of all leaves, in order, are the rows.
pub spread_all : (leaf : List ℕ → ℕ) (rows : List Row) (n : ℕ) → ((key : List ℕ) → leaf key < n) → AscendByKey rows
    → in_order (flat_map (λ i. rows_in_leaf leaf i rows) (range_with_len 0 n)) ≡ rows
spread_all leaf [] n below ascend = spread_none leaf n 0
spread_all leaf (r ∷ rows) n below ascend =
    spread_first leaf r rows n 0 ascend.0 (omega arith) (omega (arith, below r.key))
    ∙ ap (λ (t : List Row). r ∷ t) (spread_all leaf rows n below ascend.1)

-- ---- row maps

pub leaf_below : (f : Format) (bits : ℕ) (key : List ℕ) → leaf_at f bits key < 2 ^ leaf_bits f
unfolding leaf_at
leaf_below One bits key = omega arith
leaf_below Two bits key = omega arith

-- what leaf i has
abbrev pub bucket_at : RowMap → ℕ → Bucket
bucket_at m i = record { format = m.format; rows = rows_in_leaf (leaf_in m) i m.rows }

-- The leaves of a row map make that row map again.
pub leaves_make : (m : RowMap) → AscendByKey m.rows → map_of m.format m.bits m.range (leaves_of m) ≡ m
unfolding leaves_of
leaves_make m ascend =
    let count = 2 ^ leaf_bits m.format in
    let all : in_order (flat_map (λ (b : Bucket). b.rows) (leaves_of m)) ≡ m.rows =
    ap in_order (flat_map-map (λ (b : Bucket). b.rows) (bucket_at m) (range_with_len 0 count))
    ∙ spread_all (leaf_in m) m.rows count (leaf_below m.format m.bits) ascend in
    ap (λ (rows : List Row). record { format = m.format; bits = m.bits; range = m.range; rows = rows }) all
