-- The table of a renewed range.
use Rattle.std.proofs.Common.{◌≡◌, ℕ, Bool, true, false, cond, List, [], ◌∷◌, ◌++◌, ◌||◌, map, refl, sym, ap, subst, ◌∙◌, append_assoc, append-nil}
use Rattle.std.specs.Prelude.{bytes_eq, nat_eq}
use Rattle.std.specs.Cmp.Lexicographic.{pointwise}
use Rattle.std.specs.List.{AllByRecursion, flat_map, list_any, range_with_len}
use Rattle.std.proofs.lemmas.Bool.{or_parts}
use Rattle.std.proofs.lemmas.Slice.Eq.{bytes_eq-Decides}
use Rattle.version_set.specs.declared.version.Version.{Version}
use Rattle.version_set.proofs.ListLaws.{all-append, all-filter}
use Rattle.key_ring.specs.Places.{range_at}
use Rattle.range_journal.specs.declared.journal.Entry.{Entry}
use Rattle.range_journal.specs.Journal.{held}
use Rattle.row_bytes.specs.declared.row.Row.{Row}
use Rattle.hash_tree.specs.Leaves.{rows_in_leaf}
use Rattle.row_table.specs.declared.table.TableRow.{TableRow}
use Rattle.row_table.specs.Tables.{is_of, set_in}
use Rattle.row_table.proofs.TableLaws.{row_set}
use Rattle.range_store.specs.Config.{Config}
use Rattle.range_store.specs.Renewals.{config_to, copies_from, by_leaf, offers_by_leaf, held_offers, Basis, IsBasis}
use Rattle.range_store.specs.Rows.{rows_of, keys_from}
use Rattle.range_store.specs.Store.{Store, leaf_in, leaf_count, IsSound}
use Rattle.range_store.specs.TableRows.{IsHome, IsTableOf, row_of}
use Rattle.range_store.proofs.HeldLaws.{none_of}
use Rattle.range_store.proofs.OfferLaws.{row_map_now}
use Rattle.range_store.proofs.RenewLaws.{listed_held, renewed_holds}
use Rattle.range_store.proofs.TableRowLaws.{table_same}

-- ---- rows that are inserted one after another

-- if each has the right versions of its key, a key has its right versions then, if it had them before or is new
inserted : (right : List ℕ → List Version) (key : List ℕ) (ts rows : List TableRow) → AllByRecursion (λ (r : TableRow). r.set ≡ right r.key) rows
    → (list_any (is_of key) rows ≡ false → set_in ts key ≡ right key) → set_in (ts ++ rows) key ≡ right key
inserted right key ts [] each others = ap (λ (rs : List TableRow). set_in rs key) (append-nil ts) ∙ others refl
inserted right key ts (r ∷ rows) each others =
    ap (λ (rs : List TableRow). set_in rs key) (sym (append_assoc ts (r ∷ []) rows))
    ∙ inserted right key (ts ++ r ∷ []) rows each.1 (λ none. row_set ts r key ∙ by_key (bytes_eq r.key key) refl none)
  where
    by_key : (b : Bool) → bytes_eq r.key key ≡ b → list_any (is_of key) rows ≡ false → cond b r.set (set_in ts key) ≡ right key
    by_key true eq none = each.0 ∙ ap right ((bytes_eq-Decides r.key key).0 eq)
    by_key false eq none = others (ap (λ b. b || list_any (is_of key) rows) eq ∙ none)

-- ---- the rows of a tree

-- what holds of rows holds of them leaf by leaf
all_by_leaf : (P : Row → Type 0) (leaf : List ℕ → ℕ) (rows : List Row) (leaves : List ℕ) → AllByRecursion P rows
    → AllByRecursion P (flat_map (λ i. rows_in_leaf leaf i rows) leaves)
all_by_leaf P leaf rows [] all = tt
all_by_leaf P leaf rows (i ∷ leaves) all = all-append P (rows_in_leaf leaf i rows) _ (all-filter P (λ (r : Row). nat_eq (leaf r.key) i) rows all)
    (all_by_leaf P leaf rows leaves all)

keyed : (f : List ℕ → List Version) (ks : List (List ℕ))
    → AllByRecursion (λ (r : Row). r.versions ≡ f r.key) (map (λ k. record { key = k; versions = f k }) ks)
keyed f [] = tt
keyed f (k ∷ ks) = (refl, keyed f ks)

-- each row has what is held for its key
rows_hold : (es : List Entry) → AllByRecursion (λ (r : Row). r.versions ≡ held es r.key) (rows_of es)
unfolding rows_of
rows_hold es = keyed (held es) (keys_from [] es)

sets_of : (bits : ℕ) (right : List ℕ → List Version) (rows : List Row) → AllByRecursion (λ (r : Row). r.versions ≡ right r.key) rows
    → AllByRecursion (λ (r : TableRow). r.set ≡ right r.key) (map (row_of bits) rows)
sets_of bits right [] all = tt
sets_of bits right (r ∷ rows) all = (all.0, sets_of bits right rows all.1)

homes_of : (bits range : ℕ) (rows : List Row) → AllByRecursion (λ (r : Row). range_at bits r.key ≡ range) rows
    → AllByRecursion (λ (r : TableRow). IsHome bits range r.key r.leaf) (map (row_of bits) rows)
homes_of bits range [] all = tt
homes_of bits range (r ∷ rows) all = (record { leaf_is = refl; here = all.0 }, homes_of bits range rows all.1)

-- no row is of the key
none_listed : (bits : ℕ) (key : List ℕ) (rows : List Row) → list_any (is_of key) (map (row_of bits) rows) ≡ false
    → AllByRecursion (λ (r : Row). pointwise nat_eq r.key key ≡ false) rows
none_listed bits key [] none = tt
none_listed bits key (r ∷ rows) none =
    let both = or_parts (pointwise nat_eq r.key key) (list_any (is_of key) (map (row_of bits) rows)) none in
    (both.0, none_listed bits key rows both.1)

-- ---- the table of a range that begins with them

table_of_store : (s : Store) (seat : ℕ) → IsSound s
    → IsTableOf s.config.bits s.config.range (copies_from 0 seat (held_offers s)) (map (row_of s.config.bits) (by_leaf s.config (rows_of s.entries)))
table_of_store s seat ok =
    let leaves = range_with_len 0 (leaf_count s.config) in
    let rows = by_leaf s.config (rows_of s.entries) in
    record {
      sets = λ key.
          inserted (held s.entries) key [] (map (row_of s.config.bits) rows)
          (sets_of s.config.bits (held s.entries) rows (all_by_leaf _ (leaf_in s.config) (rows_of s.entries) leaves (rows_hold s.entries)))
          (λ none. sym (none_of key rows (none_listed s.config.bits key rows none)) ∙ listed_held s key)
          ∙ sym (renewed_holds s seat key);
      homes = homes_of s.config.bits s.config.range rows (all_by_leaf _ (leaf_in s.config) (rows_of s.entries) leaves (row_map_now s ok).here);
    }

pub table_begun : (b : Basis) (seat limit : ℕ) (config : Config) (entries : List Entry) (rows : List TableRow) → IsBasis b
    → config ≡ config_to b.config limit → entries ≡ copies_from 0 seat (offers_by_leaf b.config b.rows)
    → rows ≡ map (row_of b.config.bits) (by_leaf b.config b.rows)
    → IsTableOf config.bits config.range entries rows
table_begun b seat limit config entries rows is limited copies made =
    let s : Store = record { config = b.config; entries = is.entries; marks = b.marks } in
    let table = table_of_store s seat is.sound in
    table_same config.bits config.range (copies_from 0 seat (held_offers s)) entries
    (map (row_of b.config.bits) (by_leaf b.config (rows_of is.entries))) rows
    (subst (λ (x : Config). IsTableOf x.bits x.range (copies_from 0 seat (held_offers s))
    (map (row_of b.config.bits) (by_leaf b.config (rows_of is.entries)))) (sym limited) table)
    (copies ∙ ap (λ (rs : List Row). copies_from 0 seat (offers_by_leaf b.config rs)) is.rows)
    (made ∙ ap (λ (rs : List Row). map (row_of b.config.bits) (by_leaf b.config rs)) is.rows)
