-- The results that reading rows may return.
use Rattle.std.specs.Prelude.{◌≡◌, ℕ, ◌+◌, List, [], length, Result, Ok, Err}
use Rattle.vclock.specs.declared.refusal.Refusal.{Refusal}
use Rattle.vclock.specs.declared.refusal.Refusal.TheVariants as refusals
use Rattle.vclock.specs.declared.format.Format.{Format}
use Rattle.row_bytes.specs.declared.row.Row.{Row}
use Rattle.row_bytes.specs.Reading.{HasHead, row_at, rows_at}

-- the row and the rest, or NoMemory
abbrev pub IsRead : {X : Type 0} → Row → List ℕ → (X → Row × List ℕ) → Result X Refusal → Type 0
IsRead r rest view (Ok x) = view x ≡ (r, rest)
IsRead r rest view (Err e) = e ≡ refusals.NoMemory

-- the row is broken: offset and the rest that begins with the broken field make up the text
pub record IsBrokenAt (format : Format) (text : List ℕ) (offset : ℕ) : Type 0 where
  pub left : ℕ
  pub broken : row_at format text ≡ Err left
  pub offset_is : offset + left ≡ length text

-- a refusal is the row's error, at its offset, or NoMemory for the part after its key and the number of its versions
abbrev pub IsReadFault : Format → List ℕ → Refusal → Type 0
IsReadFault format text (refusals.RowBroken offset) = IsBrokenAt format text offset
IsReadFault format text e = (e ≡ refusals.NoMemory) × HasHead text

-- these rows, or NoMemory
abbrev pub AreRead : List Row → Result (List Row) Refusal → Type 0
AreRead rows (Ok found) = found ≡ rows
AreRead rows (Err e) = e ≡ refusals.NoMemory

-- rows are broken: offset and the rest that begins with the broken field make up the text. A row has at least one byte,
-- so reading at most length text rows reads all.
pub record AreBrokenAt (format : Format) (text : List ℕ) (offset : ℕ) : Type 0 where
  pub left : ℕ
  pub broken : rows_at format (length text) [] [] text ≡ Err left
  pub offset_is : offset + left ≡ length text

-- a refusal is the rows' error, at its offset, or NoMemory for the part after the first key and the number of its
-- versions
abbrev pub AreReadFault : Format → List ℕ → Refusal → Type 0
AreReadFault format text (refusals.RowBroken offset) = AreBrokenAt format text offset
AreReadFault format text e = (e ≡ refusals.NoMemory) × HasHead text
