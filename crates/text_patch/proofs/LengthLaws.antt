-- Parts are so short that their lengths fit their fields.
use Rattle.std.proofs.Common.{ℕ, zero, suc, ◌+◌, ◌*◌, ◌<◌, ◌≤◌, ◌^◌, List, [], ◌∷◌, ◌++◌, length, map, arith}
use Rattle.std.specs.Int.{w32, to_be_bytes}
use Rattle.std.specs.List.{flat_map, AllByRecursion, range_with_len}
use Rattle.std.proofs.lemmas.List.{length-append}
use Rattle.sha2.specs.Sha256.{sha256}
use Rattle.sha2.proofs.Facts256.{length-sha256}
use Rattle.vclock.specs.declared.format.Format.{Format}
use Rattle.vclock.specs.declared.format.Format.TheVariants.{One, Two}
use Rattle.version_set.specs.declared.version.Version.{Version}
use Rattle.version_set.specs.Version.{pair_text, version_text}
use Rattle.version_set.proofs.ListLaws.{all-filter}
use Rattle.row_bytes.specs.declared.row.Row.{Row}
use Rattle.row_bytes.specs.Rows.{row_text, IsVersion, IsRow}
use Rattle.row_bytes.proofs.LimitLaws.{value_short, key_short}
use Rattle.row_bytes.proofs.TextLengthLaws.{pairs_len, row_text_len}
use Rattle.hash_tree.specs.Leaves.{rows_in_leaf}
use Rattle.hash_tree.specs.Texts.{per_child, node_text}
use Rattle.snapshot.specs.RowMaps.{RowMap, IsRowMap, leaf_in}
use Rattle.text_patch.specs.Parts.{parts_over}

-- a part's length fits its field
abbrev pub IsShort : List ℕ → Type 0
IsShort part = length part < 2 ^ 32

-- a version has 32 pairs and a value of 65,536 bytes at most
version_short : (format : Format) (v : Version) → IsVersion format v → length (version_text format v) ≤ 65862
version_short One v is =
    omega (
      arith,
      pairs_len v.clock,
      is.clock.short,
      value_short One v.kind v.value is.value,
      length-append (flat_map pair_text v.clock) (to_be_bytes w32 (length v.value) ++ v.value),
    )
version_short Two v is =
    omega (
      arith,
      pairs_len v.clock,
      is.clock.short,
      value_short Two v.kind v.value is.value,
      length-append (flat_map pair_text v.clock) (to_be_bytes w32 (length v.value) ++ v.value),
    )

versions_short : (format : Format) (vs : List Version) → AllByRecursion (IsVersion format) vs
    → length (flat_map (version_text format) vs) ≤ 65862 * length vs
versions_short format [] all = omega arith
versions_short format (v ∷ vs) all =
    omega (
      arith,
      version_short format v all.0,
      versions_short format vs all.1,
      length-append (version_text format v) (flat_map (version_text format) vs),
    )

row_short : (format : Format) (r : Row) → IsRow format r → IsShort (row_text format r)
row_short format r is = omega (arith, row_text_len format r, key_short r.key is.key, is.few, versions_short format r.versions is.each)

rows_short : (format : Format) (rows : List Row) → AllByRecursion (IsRow format) rows → AllByRecursion IsShort (map (row_text format) rows)
rows_short format [] all = tt
rows_short format (r ∷ rows) all = (row_short format r all.0, rows_short format rows all.1)

digests_short : (text : ℕ → List ℕ) (js : List ℕ) → AllByRecursion IsShort (map (λ j. sha256 (text j)) js)
digests_short text [] = tt
digests_short text (j ∷ js) = (omega (arith, length-sha256 (text j)), digests_short text js)

-- by the height of the node
pub parts_short : (m : RowMap) (height index : ℕ) → IsRowMap m → AllByRecursion IsShort (parts_over m.format (leaf_in m) m.rows height index)
unfolding per_child
parts_short m zero index is = rows_short m.format (rows_in_leaf (leaf_in m) index m.rows) (all-filter (IsRow m.format) _ m.rows is.each)
parts_short m (suc height) index is = digests_short (λ j. node_text m.format (leaf_in m) m.rows height (16 * index + j)) (range_with_len 0 16)
