-- The sizes of rows in leaves, in bytes.
use Rattle.std.specs.Prelude.{ℕ, List, length}
use Rattle.std.specs.List.{sum_by}
use Rattle.vclock.specs.declared.format.Format.{Format}
use Rattle.row_bytes.specs.declared.row.Row.{Row}
use Rattle.row_bytes.specs.Rows.{row_text}
use Rattle.hash_tree.specs.Leaves.{Bucket}

-- the length of the texts of rows
abbrev pub rows_len : Format → List Row → ℕ
rows_len format rows = sum_by (λ r. length (row_text format r)) rows

-- the length of the texts of the rows of a leaf
abbrev pub leaf_len : Bucket → ℕ
leaf_len b = rows_len b.format b.rows
