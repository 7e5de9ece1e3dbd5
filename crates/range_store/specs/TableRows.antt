-- The table of a range: the held versions, by key.
use Rattle.std.specs.Prelude.{◌≡◌, ℕ, List}
use Rattle.std.specs.List.{AllByRecursion}
use Rattle.vclock.specs.declared.format.Format.TheVariants.{Two}
use Rattle.key_ring.specs.Places.{range_at, leaf_at}
use Rattle.range_journal.specs.declared.journal.Entry.{Entry}
use Rattle.range_journal.specs.Journal.{held}
use Rattle.row_bytes.specs.declared.row.Row.{Row}
use Rattle.hash_tree.specs.Leaves.{versions_in}
use Rattle.row_table.specs.declared.table.TableRow.{TableRow}
use Rattle.row_table.specs.Tables.{set_in}

-- a leaf is a key's in format 2, and the key belongs to a range
pub record IsHome (bits range : ℕ) (key : List ℕ) (leaf : ℕ) : Type 0 where
  pub leaf_is : leaf ≡ leaf_at Two bits key
  pub here : range_at bits key ≡ range

-- the table has the versions that are held for each key, and each row has the leaf of its key, which belongs to the
-- range
pub record IsTableOf (bits range : ℕ) (entries : List Entry) (rows : List TableRow) : Type 0 where
  pub sets : (key : List ℕ) → set_in rows key ≡ held entries key
  pub homes : AllByRecursion (λ (r : TableRow). IsHome bits range r.key r.leaf) rows

-- the table's row of the key of an entry, with the versions that rows have for it
abbrev pub row_from : ℕ → List Row → Entry → TableRow
row_from bits rows e = record { key = e.key; leaf = leaf_at Two bits e.key; set = versions_in e.key rows }

-- the table's row of a row of a tree
abbrev pub row_of : ℕ → Row → TableRow
row_of bits r = record { key = r.key; leaf = leaf_at Two bits r.key; set = r.versions }
