-- What a store keeps where partners' entries are told as copies.
use Rattle.std.proofs.Common.{◌≡◌, ℕ, List, [], ◌∷◌, map, refl, sym, ap, subst, ◌∙◌}
use Rattle.std.specs.List.{AllByRecursion}
use Rattle.version_set.specs.declared.version.Version.{Version}
use Rattle.range_journal.specs.declared.journal.Entry.{Entry}
use Rattle.range_journal.specs.Journal.{held}
use Rattle.range_journal.specs.Copies.{as_copies}
use Rattle.range_journal.proofs.CopyLaws.{copies_held, copies_news, copies_never_crowded}
use Rattle.row_bytes.specs.Rows.{IsRow}
use Rattle.row_bytes.specs.declared.row.Row.{Row}
use Rattle.row_table.specs.declared.table.TableRow.{TableRow}
use Rattle.hash_tree.specs.Texts.{IsTreeFor}
use Rattle.range_store.specs.Config.{Config}
use Rattle.range_store.specs.Rows.{keys_from, with_key, rows_of}
use Rattle.range_store.specs.Store.{Store, IsSound, IsOwn, leaf_in, tree_of, rows_now}
use Rattle.range_store.specs.Copies.{with_copies}
use Rattle.range_store.specs.TableRows.{IsTableOf}

copies_keys : (keys : List (List ℕ)) (es : List Entry) → keys_from keys (as_copies es) ≡ keys_from keys es
copies_keys keys [] = refl
copies_keys keys (e ∷ es) = copies_keys (with_key e.key keys) es

abbrev row_by : (List ℕ → List Version) → List ℕ → Row
row_by f k = record { key = k; versions = f k }

pub copies_rows : (es : List Entry) → rows_of (as_copies es) ≡ rows_of es
unfolding rows_of
copies_rows es = (λ i. map (row_by (λ k. copies_held es k i)) (keys_from [] (as_copies es))) ∙ ap (map (row_by (held es))) (copies_keys [] es)

copies_own : (c : Config) (es : List Entry) → AllByRecursion (IsOwn c) es → AllByRecursion (IsOwn c) (as_copies es)
copies_own c [] own = tt
copies_own c (e ∷ es) own = (record { key = own.0.key; value = own.0.value; here = own.0.here }, copies_own c es own.1)

pub copies_sound : (s : Store) → IsSound s → IsSound (with_copies s)
copies_sound s ok =
    let rows = sym (copies_rows s.entries) in
    record {
      config = ok.config;
      own = copies_own s.config s.entries ok.own;
      news = copies_news s.entries ok.news;
      short = λ key. copies_never_crowded s.entries key (ok.short key);
      rows = subst (AllByRecursion (IsRow s.config.format)) rows ok.rows;
      marks = subst (λ (rs : List Row). IsTreeFor (leaf_in s.config) rs (tree_of s)) rows ok.marks;
    }

pub copies_table : (bits range : ℕ) (es : List Entry) (rows : List TableRow) → IsTableOf bits range es rows → IsTableOf bits range (as_copies es) rows
copies_table bits range es rows is = record { sets = λ key. is.sets key ∙ sym (copies_held es key); homes = is.homes }

pub copies_rows_now : (s : Store) → rows_now s ≡ rows_now (with_copies s)
copies_rows_now s = λ i. record { format = s.config.format; bits = s.config.bits; range = s.config.range; rows = sym (copies_rows s.entries) i }
