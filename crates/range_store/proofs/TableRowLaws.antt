-- What the table of a range has.
use Rattle.std.proofs.Common.{◌≡◌, ℕ, zero, suc, Option, Some, None, slice_get, ◌+◌, ◌-◌, ◌/◌, ◌%◌, ◌^◌, ◌≤◌, Bool, true, false, cond, List, [], ◌∷◌}
use Rattle.std.proofs.Common.{◌++◌, map, refl, sym, ap, subst, ◌∙◌, ◌||◌, arith}
use Rattle.std.specs.Prelude.{nat_eq}
use Rattle.std.specs.List.{AllByRecursion, list_any}
use Rattle.std.specs.Cmp.Lexicographic.{pointwise}
use Rattle.std.proofs.lemmas.Nat.{shr-shr}
use Rattle.std.proofs.lemmas.Bool.{or_parts}
use Rattle.std.proofs.lemmas.Slice.Eq.{bytes_eq-Decides}
use Rattle.vclock.specs.declared.format.Format.TheVariants.{One, Two}
use Rattle.version_set.specs.declared.version.Version.{Version}
use Rattle.version_set.specs.Version.{maximal, offered, set_from}
use Rattle.range_journal.specs.declared.journal.Entry.{Entry}
use Rattle.range_journal.specs.Journal.{held, versions_of}
use Rattle.range_journal.proofs.JournalLaws.{held-push}
use Rattle.key_ring.specs.Places.{key_number, leaf_at, range_at}
use Rattle.row_bytes.specs.declared.row.Row.{Row}
use Rattle.hash_tree.specs.Leaves.{versions_in}
use Rattle.row_table.specs.declared.table.TableRow.{TableRow}
use Rattle.row_table.specs.Tables.{Table, is_of, at_place, place_of, set_in, with_put, with_all}
use Rattle.row_table.proofs.TableLaws.{found_is, put_set, put_each, all_sets, all_each}
use Rattle.range_store.specs.Fitting.{IsFitting}
use Rattle.range_store.specs.Store.{Store}
use Rattle.range_store.specs.TableRows.{IsHome, IsTableOf, row_from}
use Rattle.range_store.proofs.StoreLaws.{here_of}

-- ---- leaves

-- a leaf of format 1 is the first bits of that of format 2
cut : (x : ℕ) → x % 4096 / 16 ≡ x / 16 % 256
cut x = omega arith

pub narrow : (bits : ℕ) (key : List ℕ) → bits ≤ 8 → leaf_at Two bits key / 16 ≡ leaf_at One bits key
unfolding leaf_at
narrow bits key few =
    let n = key_number key in
    let all : 128 - (bits + 8) ≡ (128 - (bits + 12)) + 4 = omega arith in
    cut (n / 2 ^ (128 - (bits + 12))) ∙ ap (λ x. x % 256) (shr-shr n (128 - (bits + 12)) 4 ∙ ap (λ k. n / 2 ^ k) (sym all))

-- ---- a row that is found

all_at : (P : TableRow → Type 0) (rs : List TableRow) (i : ℕ) (r : TableRow) → AllByRecursion P rs → slice_get rs i ≡ Some r → P r
all_at P [] i r all at = absurd (let no : None ≡ Some r = at in cc)
all_at P (x ∷ rs) zero r all at = let same : x ≡ r = cc in subst P same all.0
all_at P (x ∷ rs) (suc i) r all at = all_at P rs i r all.1 at

-- the row of a key has its leaf, and the key is of the range
pub home_found : (bits range : ℕ) (es : List Entry) (rows : List TableRow) (key : List ℕ) (r : TableRow) → IsTableOf bits range es rows
    → at_place rows (place_of rows key) ≡ Some r → IsHome bits range key r.leaf
home_found bits range es rows key r is at = by_place (place_of rows key) refl at
  where
    by_place : (o : Option ℕ) → place_of rows key ≡ o → at_place rows o ≡ Some r → IsHome bits range key r.leaf
    by_place None place none = absurd (let no : None ≡ Some r = none in cc)
    by_place (Some i) place here =
        subst (λ k. IsHome bits range k r.leaf) (found_is rows key i r place here)
        (all_at (λ (x : TableRow). IsHome bits range x.key x.leaf) rows i r is.homes here)

-- ---- no entry, and one more

pub table_none : (bits range : ℕ) → IsTableOf bits range [] []
table_none bits range = record { sets = λ key. refl; homes = tt }

-- a row for an entry is put
pub table_admitted : (bits range : ℕ) (es : List Entry) (e : Entry) (t : Table) (row : TableRow) → IsTableOf bits range es t.rows → row.key ≡ e.key
    → row.set ≡ offered e.version (held es e.key) → IsHome bits range row.key row.leaf → IsTableOf bits range (es ++ e ∷ []) (with_put t row).rows
table_admitted bits range es e t row is key set home = record {
  sets = λ k. put_set t row k ∙ by_key k (pointwise nat_eq row.key k) refl;
  homes = put_each (λ (r : TableRow). IsHome bits range r.key r.leaf) t row is.homes home;
}
  where
    by_key : (k : List ℕ) (b : Bool) → pointwise nat_eq row.key k ≡ b → cond b row.set (set_in t.rows k) ≡ held (es ++ e ∷ []) k
    by_key k true eq =
        let same : row.key ≡ k = (bytes_eq-Decides row.key k).0 eq in
        let here : e.key ≡ k = sym key ∙ same in
        set ∙ ap (λ x. offered e.version (held es x)) here
        ∙ ap (λ b. cond b (offered e.version (held es k)) (held es k)) (sym (ap (λ x. pointwise nat_eq x k) (sym key) ∙ eq))
        ∙ sym (held-push es e k)
    by_key k false eq = is.sets k ∙ ap (λ b. cond b (offered e.version (held es k)) (held es k)) (sym (ap (λ x. pointwise nat_eq x k) (sym key) ∙ eq))
        ∙ sym (held-push es e k)

-- the same of equal entries and rows
pub table_same : (bits range : ℕ) (es now : List Entry) (rows new : List TableRow) → IsTableOf bits range es rows → now ≡ es → new ≡ rows
    → IsTableOf bits range now new
table_same bits range es now rows new is entries same =
    subst (λ (xs : List Entry). IsTableOf bits range xs new) (sym entries) (subst (λ (rs : List TableRow). IsTableOf bits range es rs) (sym same) is)

-- a row with a version that fits is put
pub table_grown : (s : Store) (leaf : ℕ) (e : Entry) (entries : List Entry) (t new : Table)
    → IsTableOf s.config.bits s.config.range s.entries t.rows → IsFitting s leaf e.key e.version → entries ≡ s.entries ++ e ∷ []
    → new ≡ with_put t (record { key = e.key; leaf = leaf; set = offered e.version (set_in t.rows e.key) })
    → IsTableOf s.config.bits s.config.range entries new.rows
table_grown s leaf e entries t new table fits es put =
    let row : TableRow = record { key = e.key; leaf = leaf; set = offered e.version (set_in t.rows e.key) } in
    let home : IsHome s.config.bits s.config.range row.key row.leaf = record {
      leaf_is = fits.leaf_is;
      here = here_of s.config e.key e.version.kind e.version.value fits.here;
    } in
    table_same s.config.bits s.config.range (s.entries ++ e ∷ []) entries (with_put t row).rows new.rows
    (table_admitted s.config.bits s.config.range s.entries e t row table refl (ap (offered e.version) (table.sets e.key)) home) es
    (ap (λ (u : Table). u.rows) put)

-- ---- many more

-- entries of other keys
others : (more : List Entry) (key : List ℕ) → list_any (λ (e : Entry). pointwise nat_eq e.key key) more ≡ false → versions_of more key ≡ []
others [] key none = refl
others (e ∷ more) key none = let both = or_parts (pointwise nat_eq e.key key) (list_any (λ (x : Entry). pointwise nat_eq x.key key) more) none in
    rw both.0 (others more key both.1)

unchanged : (es more : List Entry) (key : List ℕ) → list_any (λ (e : Entry). pointwise nat_eq e.key key) more ≡ false
    → versions_of (es ++ more) key ≡ versions_of es key
unchanged [] more key none = others more key none
unchanged (e ∷ es) more key none = ap (λ (vs : List Version). cond (pointwise nat_eq e.key key) (e.version ∷ vs) vs) (unchanged es more key none)

-- the rows of entries have their keys
same_any : (bits : ℕ) (rows : List Row) (more : List Entry) (key : List ℕ)
    → list_any (is_of key) (map (row_from bits rows) more) ≡ list_any (λ (e : Entry). pointwise nat_eq e.key key) more
same_any bits rows [] key = refl
same_any bits rows (e ∷ more) key = ap (λ b. pointwise nat_eq e.key key || b) (same_any bits rows more key)

rows_right : (bits range : ℕ) (rows : List Row) (right : List ℕ → List Version) (more : List Entry)
    → AllByRecursion (λ (e : Entry). versions_in e.key rows ≡ right e.key) more
    → AllByRecursion (λ (r : TableRow). r.set ≡ right r.key) (map (row_from bits rows) more)
rows_right bits range rows right [] all = tt
rows_right bits range rows right (e ∷ more) all = (all.0, rows_right bits range rows right more all.1)

rows_home : (bits range : ℕ) (rows : List Row) (more : List Entry) → AllByRecursion (λ (e : Entry). range_at bits e.key ≡ range) more
    → AllByRecursion (λ (r : TableRow). IsHome bits range r.key r.leaf) (map (row_from bits rows) more)
rows_home bits range rows [] all = tt
rows_home bits range rows (e ∷ more) all = (record { leaf_is = refl; here = all.0 }, rows_home bits range rows more all.1)

-- rows that have what is held of entries are put
pub table_taken : (bits range : ℕ) (es more : List Entry) (t : Table) (rows : List Row) → IsTableOf bits range es t.rows
    → AllByRecursion (λ (e : Entry). range_at bits e.key ≡ range) more
    → AllByRecursion (λ (e : Entry). versions_in e.key rows ≡ held (es ++ more) e.key) more
    → IsTableOf bits range (es ++ more) (with_all t (map (row_from bits rows) more)).rows
table_taken bits range es more t rows is here right =
    let new = map (row_from bits rows) more in
    record {
      sets = λ key. all_sets (held (es ++ more)) t new key (rows_right bits range rows (held (es ++ more)) more right)
          (λ none. is.sets key ∙ ap (λ (vs : List Version). maximal (set_from [] vs))
          (sym (unchanged es more key (sym (same_any bits rows more key) ∙ none))));
      homes = all_each (λ (r : TableRow). IsHome bits range r.key r.leaf) t new is.homes (rows_home bits range rows more here);
    }
