-- The rows of a range and their tree, as those of a right range.
use Rattle.std.proofs.Common.{◌≡◌, ℕ, ◌≤◌, ◌<◌, ◌^◌, List, [], ◌∷◌, map, ap, subst, ◌∙◌}
use Rattle.std.specs.Prelude.{IsTrue, Result, Ok, Err}
use Rattle.vclock.specs.declared.refusal.Refusal.{Refusal}
use Rattle.range_tree.specs.Rehashes.{HashesSome}
use Rattle.std.specs.List.{AllByRecursion}
use Rattle.std.specs.declared.cmp.Ordering.TheVariants.{Less, Equal, Greater}
use Rattle.std.proofs.lemmas.Bool.{ltb-true, leb-true, and_parts}
use Rattle.vclock.specs.declared.format.Format.{Format}
use Rattle.version_set.specs.Order.{place_by}
use Rattle.version_set.specs.declared.version.Version.{Version}
use Rattle.range_journal.specs.declared.journal.Entry.{Entry}
use Rattle.range_journal.specs.Journal.{held}
use Rattle.key_ring.specs.Places.{range_at, leaf_at}
use Rattle.row_bytes.specs.Rows.{IsRow}
use Rattle.row_bytes.specs.declared.row.Row.{Row}
use Rattle.hash_tree.specs.Leaves.{key_cmp}
use Rattle.hash_tree.specs.Texts.{IsTreeFor}
use Rattle.snapshot.specs.RowMaps.{RowMap, IsRowMap}
use Rattle.range_tree.specs.Trees.{RangeTree, IsRangeTree}
use Rattle.range_store.specs.Config.{Config, is_config}
use Rattle.range_store.specs.Rows.{with_key, keys_from, rows_of}
use Rattle.range_store.specs.Store.{Store, IsOwn, IsSound, leaf_in, rows_now, tree_in, tree_of, with_tree}
use Rattle.range_store.proofs.RowLaws.{rows_of-ascend}

-- ---- what holds of the keys of entries holds of the keys of rows

all-with_key : (P : List ℕ → Type 0) (k : List ℕ) (ks : List (List ℕ)) → P k → AllByRecursion P ks → AllByRecursion P (with_key k ks)
all-with_key P k [] h all = (h, tt)
all-with_key P k (x ∷ ks) h all = elim (key_cmp k x) as (λ o. AllByRecursion P (place_by o (k ∷ x ∷ ks) (x ∷ ks) (x ∷ with_key k ks))) [
  | Less ↦ (h, all)
  | Equal ↦ all
  | Greater ↦ (all.0, all-with_key P k ks h all.1)
]

all-keys_from : (P : List ℕ → Type 0) (ks : List (List ℕ)) (es : List Entry) → AllByRecursion P ks → AllByRecursion (λ (e : Entry). P e.key) es
    → AllByRecursion P (keys_from ks es)
all-keys_from P ks [] all each = all
all-keys_from P ks (e ∷ es) all each = all-keys_from P (with_key e.key ks) es (all-with_key P e.key ks each.0 all) each.1

all-keyed : (P : List ℕ → Type 0) (f : List ℕ → List Version) (ks : List (List ℕ)) → AllByRecursion P ks
    → AllByRecursion (λ (r : Row). P r.key) (map (λ k. record { key = k; versions = f k }) ks)
all-keyed P f [] all = tt
all-keyed P f (k ∷ ks) all = (all.0, all-keyed P f ks all.1)

all-rows_of : (P : List ℕ → Type 0) (es : List Entry) → AllByRecursion (λ (e : Entry). P e.key) es
    → AllByRecursion (λ (r : Row). P r.key) (rows_of es)
unfolding rows_of
all-rows_of P es each = all-keyed P (held es) (keys_from [] es) (all-keys_from P [] es tt each)

own_keys : (c : Config) (es : List Entry) → AllByRecursion (IsOwn c) es → AllByRecursion (λ (e : Entry). range_at c.bits e.key ≡ c.range) es
own_keys c [] all = tt
own_keys c (e ∷ es) all = (all.0.here, own_keys c es all.1)

-- ---- the rows now

-- no entry has no row
pub no_row : (format : Format) → AllByRecursion (IsRow format) (rows_of [])
unfolding rows_of
no_row format = tt

-- the bits and the range of a configuration
pub bits_fit : (c : Config) → IsTrue (is_config c) → c.bits ≤ 8
bits_fit c config = leb-true c.bits 8 (and_parts _ _ (and_parts _ _ (and_parts _ _ config).0).0).0

pub range_fits : (c : Config) → IsTrue (is_config c) → c.range < 2 ^ c.bits
range_fits c config = ltb-true c.range (2 ^ c.bits) (and_parts _ _ (and_parts _ _ (and_parts _ _ config).0).0).1

-- the rows now are those of a range, and their tree is right
pub tree_right : (s : Store) → IsTrue (is_config s.config) → AllByRecursion (IsOwn s.config) s.entries
    → AllByRecursion (IsRow s.config.format) (rows_of s.entries) → IsTreeFor (leaf_in s.config) (rows_of s.entries) (tree_of s)
    → IsRangeTree (tree_in s)
tree_right s config own rows marks =
    let c = s.config in
    record {
      rows = record {
        few = bits_fit c config;
        range = range_fits c config;
        ascending = rows_of-ascend s.entries;
        each = rows;
        here = all-rows_of (λ key. range_at c.bits key ≡ c.range) s.entries (own_keys c s.entries own);
      };
      marks = marks;
    }

pub tree_now : (s : Store) → IsSound s → IsRangeTree (tree_in s)
tree_now s ok = tree_right s ok.config ok.own ok.rows ok.marks

pub row_map_now : (s : Store) → IsSound s → IsRowMap (rows_now s)
row_map_now s ok = (tree_now s ok).rows

-- the tree that a right range has
pub tree_is : (s now : Store) (t : RangeTree) → s ≡ now → t.map ≡ rows_now s → t.marks ≡ s.marks → t ≡ tree_in now
tree_is s now t view map marks = (λ i. record { map = map i; marks = marks i }) ∙ ap tree_in view

-- the state with other digests of the same rows
pub retreed : (s : Store) (t : RangeTree) → IsSound s → IsRangeTree t → t.map ≡ rows_now s → IsSound (with_tree s t)
retreed s t ok right map = record {
  config = ok.config;
  own = ok.own;
  news = ok.news;
  short = ok.short;
  rows = ok.rows;
  marks = subst (λ (m : RowMap). IsTreeFor (leaf_at m.format m.bits) m.rows (record { format = m.format; digests = t.marks })) map right.marks;
}

-- some nodes were hashed, and the rows are unchanged
pub hashed_map : (r : Result ℕ Refusal) (most : ℕ) (t u : RangeTree) → HashesSome r most t u → u.map ≡ t.map
hashed_map (Ok left) most t u h = h.1.same.map
hashed_map (Err e) most t u h = ap (λ (x : RangeTree). x.map) h.3

pub some_hashed : (r : Result ℕ Refusal) (most : ℕ) (now : Store) (t u : RangeTree) → t ≡ tree_in now → HashesSome r most t u
    → HashesSome r most (tree_in now) (tree_in (with_tree now u))
some_hashed r most now t u is h =
    let map : u.map ≡ rows_now now = hashed_map r most t u h ∙ ap (λ (x : RangeTree). x.map) is in
    let new : u ≡ tree_in (with_tree now u) = λ i. record { map = map i; marks = u.marks } in
    subst (HashesSome r most (tree_in now)) new (subst (λ (x : RangeTree). HashesSome r most x u) is h)
