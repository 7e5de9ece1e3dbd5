-- A larger index, while a table grows.
use Rattle.std.proofs.Common.{◌≡◌, ◌+◌, ◌<◌, ◌≤◌, ℕ, List, Vec, Global, [], ◌∷◌, ◌++◌, length, Option, Some, None, slice_get, slice_set, subst, sym}
use Rattle.std.proofs.Common.{ap, arith}
use Rattle.std.specs.Option.{IfSome}
use Rattle.std.specs.Vec.{vec_capacity}
use Rattle.std.proofs.lemmas.List.{length-append, length-set}
use Rattle.row_table.specs.declared.index.Index.{Index}
use Rattle.row_table.specs.declared.seed.Seed.{Seed}
use Rattle.row_table.specs.declared.table.TableRow.{TableRow}
use Rattle.row_table.specs.Tables.{IsIndex}
use Rattle.row_table.proofs.TableLaws.{of_more, replaced}

-- an index of the first rows, with room for its buckets and for so many more rows
abbrev pub IsLarger : Seed → List TableRow → ℕ → Index → Type 0
IsLarger seed rs room x = IsIndex seed rs x.size x.last.items x.earlier.items × (x.size ≤ vec_capacity x.last)
    × (length rs + room ≤ vec_capacity x.earlier)

-- a table whose rows, index and larger index are these, with room for so many more rows
abbrev pub IsTable : Seed → Vec TableRow Global → Index → Option Index → ℕ → Type 0
IsTable seed rs index larger room = IsIndex seed rs.items index.size index.last.items index.earlier.items
    × (length index.earlier.items ≡ length rs.items)
    × (0 < room → length index.last.items ≡ index.size)
    × IfSome larger (IsLarger seed rs.items room)
    × (length rs.items + room ≤ 4294967295)
    × (length rs.items + room ≤ vec_capacity rs)
    × (length rs.items + room ≤ vec_capacity index.earlier)

if_some : {X : Type 0} → (P Q : X → Type 0) → (o : Option X) → ((x : X) → P x → Q x) → IfSome o P → IfSome o Q
if_some P Q None step held = tt
if_some P Q (Some x) step held = step x held

-- the list has one more row
pub larger_of_more : (seed : Seed) (rs : List TableRow) (room : ℕ) (r : TableRow) (o : Option Index) (now : List TableRow) (left : ℕ)
    → IfSome o (IsLarger seed rs room) → now ≡ rs ++ r ∷ [] → left + 1 ≤ room → IfSome o (IsLarger seed now left)
larger_of_more seed rs room r o now left held rows less = if_some (IsLarger seed rs room) (IsLarger seed now left) o
    (λ x was. (
      subst (λ (xs : List TableRow). IsIndex seed xs x.size x.last.items x.earlier.items) (sym rows)
          (of_more seed rs (r ∷ []) x.size x.last.items x.earlier.items was.0),
      was.1,
      omega (arith, was.2, less, ap length rows, length-append rs (r ∷ [])),
    )) held

-- a row of the same key is in its place
pub larger_replaced : (seed : Seed) (rs : List TableRow) (room place : ℕ) (r new : TableRow) (o : Option Index) → IfSome o (IsLarger seed rs room)
    → slice_get rs place ≡ Some r → new.key ≡ r.key → IfSome o (IsLarger seed (slice_set rs place new) room)
larger_replaced seed rs room place r new o held at same = if_some (IsLarger seed rs room) (IsLarger seed (slice_set rs place new) room) o
    (λ x was. (
      replaced seed rs x.size x.last.items x.earlier.items place r new was.0 at same,
      was.1,
      omega (arith, was.2, length-set rs place new),
    )) held

-- the index has room for more rows
pub of_reserved : (seed : Seed) (rs : List TableRow) (x y : Index) → IsIndex seed rs x.size x.last.items x.earlier.items
    → (y.size ≡ x.size) × (y.last ≡ x.last) × (y.earlier.items ≡ x.earlier.items)
    → IsIndex seed rs y.size y.last.items y.earlier.items
of_reserved seed rs x y is kept =
    subst (λ n. IsIndex seed rs n y.last.items y.earlier.items) (sym kept.0)
    (subst (λ (v : Vec ℕ Global). IsIndex seed rs x.size v.items y.earlier.items) (sym kept.1)
    (subst (λ (ns : List ℕ). IsIndex seed rs x.size x.last.items ns) (sym kept.2) is))
