-- What a range keeps that goes over to format 2.
use Rattle.std.proofs.Common.{◌≡◌, ℕ, Some, None, List, length, take, refl, sym, ap, subst, ◌∙◌, arith, inl, inr}
use Rattle.std.specs.Prelude.{nat_lt}
use Rattle.std.specs.List.{AllByRecursion}
use Rattle.std.proofs.lemmas.Bool.{cases_lt, lt-ltb, le-ltb, both_ways}
use Rattle.std.proofs.lemmas.List.{take_all}
use Rattle.vclock.specs.declared.format.Format.{Format}
use Rattle.vclock.specs.declared.format.Format.TheVariants.{One, Two}
use Rattle.vclock.specs.declared.refusal.Refusal.TheVariants.{BadValue}
use Rattle.version_set.specs.Kind.{value_fault}
use Rattle.version_set.specs.declared.kind.Kind.{Kind}
use Rattle.version_set.specs.declared.kind.Kind.TheVariants.{Live, Tombstone}
use Rattle.version_set.specs.declared.version.Version.{Version}
use Rattle.range_journal.specs.declared.journal.Entry.{Entry}
use Rattle.row_bytes.specs.Rows.{IsRow}
use Rattle.row_bytes.specs.declared.row.Row.{Row}
use Rattle.row_bytes.proofs.LimitLaws.{no_fault}
use Rattle.row_bytes.proofs.RowSetLaws.{row_set, set_row, row_fits}
use Rattle.tree_nodes.specs.Nodes.{node_count}
use Rattle.tree_nodes.proofs.TreeLaws.{tree_fresh}
use Rattle.hash_tree.proofs.DigestLaws.{true_fresh}
use Rattle.range_store.proofs.HeldLaws.{All-weaker}
use Rattle.range_store.specs.Config.{Config}
use Rattle.range_store.specs.Rows.{rows_of}
use Rattle.range_tree.specs.Trees.{RangeTree, all_dirty}
use Rattle.range_store.specs.Store.{Store, leaf_in, rows_now, IsOwn, IsSound}
use Rattle.range_store.specs.Replays.{IsReplay, replayed_tree}
use Rattle.range_store.specs.Migrates.{config_in_two, in_two}

-- ---- entries and rows

-- a value that fits format 1 fits format 2
value_in_two : (kind : Kind) (value : List ℕ) → value_fault One kind value ≡ None → value_fault Two kind value ≡ None
value_in_two Live value h = elim (cases_lt 65536 (length value)) [
  | inl long ↦ absurd (both_ways (nat_lt 4096 (length value)) (no_fault _ BadValue h) (lt-ltb 4096 (length value) (omega (arith, long))))
  | inr fine ↦ rw (le-ltb 65536 (length value) fine) refl
]
value_in_two Tombstone value h = absurd (let no : Some BadValue ≡ None = h in cc)

own_in_two : (c : Config) → c.format ≡ One → (e : Entry) → IsOwn c e → IsOwn (config_in_two c) e
own_in_two c one e own = record {
  key = own.key;
  value = value_in_two e.version.kind e.version.value (ap (λ (f : Format). value_fault f e.version.kind e.version.value) (sym one) ∙ own.value);
  here = own.here;
}

row_in_two : (r : Row) → IsRow One r → IsRow Two r
row_in_two r row =
    let fits = row_fits One r row in
    set_row Two r (row_set One r row) (record {
      key = fits.key;
      some = fits.some;
      each = All-weaker _ _ r.versions (λ (v : Version) h. value_in_two v.kind v.value h) fits.each;
    })

-- ---- the state

pub right_in_two : (s : Store) → IsSound s → s.config.format ≡ One → IsSound (in_two s)
unfolding all_dirty
right_in_two s ok one = record {
  config = ok.config;
  own = All-weaker (IsOwn s.config) (IsOwn (config_in_two s.config)) s.entries (own_in_two s.config one) ok.own;
  news = ok.news;
  short = ok.short;
  rows = All-weaker (IsRow One) (IsRow Two) (rows_of s.entries) row_in_two
      (subst (λ (f : Format). AllByRecursion (IsRow f) (rows_of s.entries)) one ok.rows);
  marks = record { tree = tree_fresh Two; digests = true_fresh Two (leaf_in (config_in_two s.config)) (rows_of s.entries) (node_count Two) };
}

-- its journal can be replayed in format 2
pub replay_in_two : (s : Store) → IsSound s → s.config.format ≡ One
    → IsReplay (record { config = config_in_two s.config; entries = s.entries; front = 0 })
replay_in_two s ok one = record {
  config = ok.config;
  own = All-weaker (IsOwn s.config) (IsOwn (config_in_two s.config)) s.entries (own_in_two s.config one) ok.own;
  short = ok.short;
  within = omega arith;
}

-- a store with the configuration and the tree of one that went over
pub went_over : (s : Store) (c : Config) (es : List Entry) (tree : RangeTree) → IsSound s → s.config.format ≡ One → c ≡ config_in_two s.config
    → es ≡ s.entries → tree ≡ replayed_tree (record { config = c; entries = es; front = length es })
    → IsSound (record { config = c; entries = s.entries; marks = tree.marks })
    × (tree.map ≡ rows_now (record { config = c; entries = s.entries; marks = tree.marks }))
    × (record { config = c; entries = s.entries; marks = tree.marks } ≡ in_two s)
went_over s c es tree ok one config same is =
    let whole : take (length es) es ≡ s.entries = take_all (length es) es (omega arith) ∙ same in
    let rows : tree.map ≡ record { format = c.format; bits = c.bits; range = c.range; rows = rows_of s.entries } =
    ap (λ (t : RangeTree). t.map) is
    ∙ ap (λ (xs : List Entry). record { format = c.format; bits = c.bits; range = c.range; rows = rows_of xs }) whole in
    let dirty : tree.marks ≡ all_dirty Two = ap (λ (t : RangeTree). t.marks) is ∙ ap (λ (x : Config). all_dirty x.format) config in
    let back : record { config = c; entries = s.entries; marks = tree.marks } ≡ in_two s = λ i. record {
      config = config i;
      entries = s.entries;
      marks = dirty i;
    } in
    (subst IsSound (sym back) (right_in_two s ok one), rows, back)
