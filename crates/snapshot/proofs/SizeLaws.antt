-- The sizes of rows in the leaves of a row map.
use Rattle.std.proofs.Common.{◌≡◌, ℕ, zero, suc, ◌+◌, ◌-◌, ◌<◌, ◌≤◌, ◌^◌, List, [], ◌∷◌, length, map, refl, sym, ap, ◌∙◌, arith, inl, inr}
use Rattle.std.specs.List.{sum_by, range_with_len}
use Rattle.std.proofs.lemmas.Bool.{cases_eq, ne_eqb, eq-eqb}
use Rattle.std.proofs.lemmas.List.Sums.{sum_by-cons}
use Rattle.vclock.specs.declared.format.Format.{Format}
use Rattle.key_ring.specs.Places.{leaf_bits}
use Rattle.row_bytes.specs.declared.row.Row.{Row}
use Rattle.row_bytes.specs.Rows.{row_text}
use Rattle.hash_tree.specs.Leaves.{rows_in_leaf}
use Rattle.hash_tree.specs.Sizes.{rows_len, leaf_len}
use Rattle.snapshot.specs.RowMaps.{RowMap, leaf_in}
use Rattle.snapshot.specs.Snapshots.{leaves_of}
use Rattle.snapshot.proofs.OrderLaws.{leaf_below, bucket_at}

-- the size of a leaf
abbrev in_leaf_len : Format → (List ℕ → ℕ) → List Row → ℕ → ℕ
in_leaf_len format leaf rows i = rows_len format (rows_in_leaf leaf i rows)

-- the size of so many leaves from one on
abbrev spread_len : Format → (List ℕ → ℕ) → List Row → ℕ → ℕ → ℕ
spread_len format leaf rows from n = sum_by (in_leaf_len format leaf rows) (range_with_len from n)

-- a row of another leaf
not_here : (format : Format) (leaf : List ℕ → ℕ) (r : Row) (rows : List Row) (i : ℕ) → ¬ (leaf r.key ≡ i)
    → in_leaf_len format leaf (r ∷ rows) i ≡ in_leaf_len format leaf rows i
not_here format leaf r rows i other = rw (ne_eqb (leaf r.key) i other) refl

-- a row of the leaf
here : (format : Format) (leaf : List ℕ → ℕ) (r : Row) (rows : List Row) (i : ℕ) → leaf r.key ≡ i
    → in_leaf_len format leaf (r ∷ rows) i ≡ length (row_text format r) + in_leaf_len format leaf rows i
here format leaf r rows i is = rw (eq-eqb (leaf r.key) i is) (sum_by-cons (λ (x : Row). length (row_text format x)) r (rows_in_leaf leaf i rows))

-- a row of a leaf before these
behind : (format : Format) (leaf : List ℕ → ℕ) (r : Row) (rows : List Row) (n from : ℕ) → leaf r.key < from
    → spread_len format leaf (r ∷ rows) from n ≡ spread_len format leaf rows from n
behind format leaf r rows zero from before = refl
behind format leaf r rows (suc n) from before =
    let one = sum_by-cons (in_leaf_len format leaf (r ∷ rows)) from (range_with_len (from + 1) n) in
    let other = sum_by-cons (in_leaf_len format leaf rows) from (range_with_len (from + 1) n) in
    let same = not_here format leaf r rows from (λ e. omega arith) in
    let more = behind format leaf r rows n (from + 1) (omega arith) in
    omega arith

-- a row of one of these
among : (format : Format) (leaf : List ℕ → ℕ) (r : Row) (rows : List Row) (n from : ℕ) → from ≤ leaf r.key → leaf r.key < from + n
    → spread_len format leaf (r ∷ rows) from n ≡ length (row_text format r) + spread_len format leaf rows from n
among format leaf r rows zero from least most = absurd (omega arith)
among format leaf r rows (suc n) from least most =
    let one = sum_by-cons (in_leaf_len format leaf (r ∷ rows)) from (range_with_len (from + 1) n) in
    let other = sum_by-cons (in_leaf_len format leaf rows) from (range_with_len (from + 1) n) in
    elim (cases_eq (leaf r.key) from) [
      | inl is ↦
          let same = here format leaf r rows from is in
          let more = behind format leaf r rows n (from + 1) (omega arith) in
          omega arith
      | inr other_leaf ↦
          let same = not_here format leaf r rows from other_leaf in
          let more = among format leaf r rows n (from + 1) (omega arith) (omega arith) in
          omega arith
    ]

none : (format : Format) (leaf : List ℕ → ℕ) (n from : ℕ) → spread_len format leaf [] from n ≡ 0
none format leaf zero from = refl
none format leaf (suc n) from =
    let one = sum_by-cons (in_leaf_len format leaf []) from (range_with_len (from + 1) n) in
    let more = none format leaf n (from + 1) in
    omega arith

-- all leaves have the size of the rows
all_leaves : (format : Format) (leaf : List ℕ → ℕ) (rows : List Row) (n : ℕ) → ((key : List ℕ) → leaf key < n)
    → spread_len format leaf rows 0 n ≡ rows_len format rows
all_leaves format leaf [] n below = none format leaf n 0
all_leaves format leaf (r ∷ rows) n below =
    among format leaf r rows n 0 (omega arith) (omega (arith, below r.key))
    ∙ ap (λ m. length (row_text format r) + m) (all_leaves format leaf rows n below)
    ∙ sym (sum_by-cons (λ (x : Row). length (row_text format x)) r rows)

sum_map : {X Y : Type 0} (f : Y → ℕ) (g : X → Y) (xs : List X) → sum_by f (map g xs) ≡ sum_by (λ x. f (g x)) xs
sum_map f g [] = refl
sum_map f g (x ∷ xs) = sum_by-cons f (g x) (map g xs) ∙ ap (λ n. f (g x) + n) (sum_map f g xs) ∙ sym (sum_by-cons (λ y. f (g y)) x xs)

-- the leaves of a row map have the size of its rows
pub leaves_len : (m : RowMap) → sum_by leaf_len (leaves_of m) ≡ rows_len m.format m.rows
unfolding leaves_of
leaves_len m =
    sum_map leaf_len (bucket_at m) (range_with_len 0 (2 ^ leaf_bits m.format))
    ∙ all_leaves m.format (leaf_in m) m.rows (2 ^ leaf_bits m.format) (leaf_below m.format m.bits)
