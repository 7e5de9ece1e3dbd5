-- The versions of a key in the rows of a format.
use Rattle.std.proofs.Common.{◌≡◌, None, List, [], ◌∷◌, ℕ}
use Rattle.std.specs.List.{AllByRecursion}
use Rattle.std.specs.declared.cmp.Ordering.TheVariants.{Less, Equal, Greater}
use Rattle.version_set.specs.Order.{place_by}
use Rattle.vclock.specs.declared.format.Format.{Format}
use Rattle.version_set.specs.Kind.{value_fault}
use Rattle.version_set.specs.declared.version.Version.{Version}
use Rattle.row_bytes.specs.declared.row.Row.{Row}
use Rattle.row_bytes.specs.Rows.{IsRow, IsVersion}
use Rattle.hash_tree.specs.Leaves.{key_cmp, versions_in}

-- the value of a version is one of the format
abbrev Fits : Format → Version → Type 0
Fits format v = value_fault format v.kind v.value ≡ None

values_fit : (format : Format) (vs : List Version) → AllByRecursion (IsVersion format) vs → AllByRecursion (Fits format) vs
values_fit format [] all = tt
values_fit format (v ∷ vs) all = (all.0.value, values_fit format vs all.1)

pub versions_fit : (format : Format) (k : List ℕ) (rows : List Row) → AllByRecursion (IsRow format) rows
    → AllByRecursion (Fits format) (versions_in k rows)
versions_fit format k [] all = tt
versions_fit format k (r ∷ rows) all = elim (key_cmp k r.key) as (λ o. AllByRecursion (Fits format) (place_by o [] r.versions (versions_in k rows))) [
  | Less ↦ tt
  | Equal ↦ values_fit format r.versions all.0.each
  | Greater ↦ versions_fit format k rows all.1
]
