-- Taking the front off a text.
use Rattle.std.specs.Prelude.{◌≡◌, ℕ, ◌≤◌, Option, Some, None, List, ◌++◌, length, take, slice_get}
use Rattle.std.specs.List.{flat_map}
use Rattle.vclock.specs.declared.format.Format.{Format}
use Rattle.row_bytes.specs.declared.row.Row.{Row}
use Rattle.row_bytes.specs.Rows.{row_text}

-- the rest after the front, or `None` if the text does not begin with the front
abbrev pub Strips : {X : Type 0} → (X → List ℕ) → List ℕ → List ℕ → Option X → Type 0
Strips view front text None = (rest : List ℕ) → text ≡ front ++ rest → ⊥
Strips view front text (Some x) = text ≡ front ++ view x

-- a text begins with the texts of the first `count` rows, in order, and of no further row
pub record StripsRows (format : Format) (rows : List Row) (text : List ℕ) (count : ℕ) (rest : List ℕ) : Type 0 where
  pub within : count ≤ length rows
  pub text_is : text ≡ flat_map (row_text format) (take count rows) ++ rest
  pub most : (r : Row) (after : List ℕ) → slice_get rows count ≡ Some r → rest ≡ row_text format r ++ after → ⊥
