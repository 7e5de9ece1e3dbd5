use Rattle.std.proofs.Common.{rules, ◌≡◌, ℕ, List, None, inl, refl, [], ◌∷◌, ◌++◌, sym, subst, ap, ◌∙◌, length}
use Rattle.std.proofs.lemmas.Result.{err_from_is_err_and}
use Rattle.range_journal.specs.declared.journal.Entry.{Entry}
use Rattle.range_journal.specs.Log.{Log}
use Rattle.vclock.specs.Bytes.{key_fault}
use Rattle.vclock.specs.Outcome.{gives}
use Rattle.version_set.specs.Kind.{value_fault}
use Rattle.version_set.specs.Version.{offer_fault}
use Rattle.range_journal.specs.Journal.{held}
use Rattle.hash_tree.specs.Leaves.{versions_in}
use Rattle.snapshot.specs.RowMaps.{leaf_in}
use Rattle.key_ring.specs.Places.{leaf_at, range_at}
use Rattle.range_tree.specs.Trees.{RangeTree, offered_to}
use Rattle.row_table.specs.Tables.{place_of, set_in, with_put}
use Rattle.vclock.specs.declared.format.Format.TheVariants.{Two}
use Rattle.range_store.specs.Fitting.{IsFitting}
use Rattle.range_store.specs.Store as store
use Rattle.range_store.specs.Store.{Store, IsSound, tree_in, rows_now, place_fault, full_fault, entry_of, journaled, knows}
use Rattle.range_journal.proofs.JournalLaws.{reserve_ok}
use Rattle.hash_tree.proofs.OutcomeLaws.{given, no_memory}
use Rattle.range_store.proofs.OfferLaws.{tree_is}
use Rattle.range_store.proofs.RowLaws.{versions_in-rows_of}
use Rattle.range_store.proofs.StoreLaws.{IsAdmitted, in_limits, here_of, admitted, admit_given, admit_is, room_left}
use Rattle.range_store.proofs.TableRowLaws.{table_same, table_grown}
use Rattle.range_store.proofs.store.RangeStore.admit.Goals as goal
use Rattle.range_store.proofs.store.RangeStore.admit.Goals.{After-self, After-append_reserved}

-- the state before, by its fields
abbrev before : After-self → Store
before c = record { config = c.self.inside.config; entries = c.self.inside.journal.entries; marks = c.self.inside.tree.marks }

-- its tree
tree : (c : After-self) → c.self.inside.tree ≡ tree_in c.args.self.now
tree c = tree_is (before c) c.args.self.now c.self.inside.tree c.self.view_is c.self.invariant.1 refl

pub offer-requires-clause-leaf : goal.offer-requires-clause-leaf
offer-requires-clause-leaf c =
    let tree = sym (tree (goal.at.offer-requires-clause-leaf c).After-self) in
    let wide = subst (λ (u : Store). c.args.leaf ≡ leaf_at Two u.config.bits c.args.key.now) (sym c.self.view_is) c.requires.leaf_is in
    c.narrow_leaf-tree_leaf.ensures c.args.key.now wide ∙ ap (λ (u : Store). store.leaf_in u.config c.args.key.now) c.self.view_is
    ∙ (λ i. leaf_in (tree i).map (sym c.in_ok-key.ensures.1 i))

pub prepare_row-requires-clause-place : goal.prepare_row-requires-clause-place
prepare_row-requires-clause-place c = c.find-place.ensures.place ∙ ap (place_of c.self.inside.table.rows) (sym c.in_ok-key.ensures.1)

pub prepare_row-requires-clause-fits : goal.prepare_row-requires-clause-fits
prepare_row-requires-clause-fits c =
    let set = ap (set_in c.self.inside.table.rows) c.in_ok-key.ensures.1 ∙ c.self.invariant.3.sets c.args.key.now
    ∙ ap (λ (u : Store). held u.entries c.args.key.now) c.self.view_is in
    ap (offer_fault c.args.version) set ∙ c.requires.fits

pub offer-requires-clause-here : goal.offer-requires-clause-here
offer-requires-clause-here c =
    let tree = sym (tree (goal.at.offer-requires-clause-here c).After-self) in
    subst (λ (t : RangeTree). range_at t.map.bits c.in_ok-key.key ≡ t.map.range) tree
    (subst (λ (key : List ℕ). range_at c.args.self.now.config.bits key ≡ c.args.self.now.config.range) (sym c.in_ok-key.ensures.1)
    (here_of c.args.self.now.config c.args.key.now c.args.version.kind c.args.version.value c.requires.here))

pub offer-requires-clause-key : goal.offer-requires-clause-key
offer-requires-clause-key c = ap key_fault c.in_ok-key.ensures.1
    ∙ (in_limits c.args.self.now.config c.args.key.now c.args.version.kind c.args.version.value c.requires.here).0

pub offer-requires-clause-value : goal.offer-requires-clause-value
offer-requires-clause-value c =
    (λ i. value_fault (tree (goal.at.offer-requires-clause-value c).After-self i).map.format (c.in_ok-row_version.ensures.1 i).kind
    (c.in_ok-row_version.ensures.1 i).value)
    ∙ (in_limits c.args.self.now.config c.args.key.now c.args.version.kind c.args.version.value c.requires.here).1

pub offer-requires-clause-room : goal.offer-requires-clause-room
offer-requires-clause-room c =
    (λ i. offer_fault (c.in_ok-row_version.ensures.1 i)
    (versions_in (c.in_ok-key.ensures.1 i) (tree (goal.at.offer-requires-clause-room c).After-self i).map.rows))
    ∙ ap (offer_fault c.args.version) (versions_in-rows_of c.args.self.now.entries c.args.key.now) ∙ c.requires.fits

pub invariant_of-self-in_err-offer : goal.invariant_of-self-in_err-offer
invariant_of-self-in_err-offer c =
    let log = (reserve_ok c.self.inside.journal _ 1 c.in_ok-reserve.ensures.reserves).is in
    let same = c.in_err-offer.ensures.0 in
    let back : record { config = c.self.inside.config; entries = c.reserve.new.self.entries; marks = c.offer.new.self.marks } ≡ before
    (goal.at.invariant_of-self-in_err-offer c).After-self =
    λ i. record { config = c.self.inside.config; entries = (log i).entries; marks = (same i).marks } in
    let table = table_same c.self.inside.config.bits c.self.inside.config.range c.self.inside.journal.entries c.reserve.new.self.entries
    c.self.inside.table.rows c.prepare_row.new.table.rows c.self.invariant.3 (ap (λ (t : Log). t.entries) log) c.in_ok-row.ensures.same in (
      subst IsSound (sym back) c.self.invariant.0,
      ap (λ (t : RangeTree). t.map) same ∙ c.self.invariant.1
          ∙ ap rows_now (sym back),
      ap (λ (t : Log). t.limit) log ∙ c.self.invariant.2,
      table,
    )

pub returns-in_err-offer-clause-admits : goal.returns-in_err-offer-clause-admits
returns-in_err-offer-clause-admits c =
    let s = before (goal.at.returns-in_err-offer-clause-admits c).After-self in
    let room = subst (λ (s : Store). full_fault s ≡ None) c.self.view_is
    (room_left s c.self.inside.journal _ (λ i. s.entries) c.self.invariant.2
    (reserve_ok c.self.inside.journal _ 1 c.in_ok-reserve.ensures.reserves)) in
    let p = err_from_is_err_and c.from_residual-in_err-offer.result c.from_residual-in_err-offer.ensures.1 in
    rw (p.1, p.2) (
      search rules,
      inl (
        (no_memory _ _ _ _ _ c.in_err-offer.ensures).1,
        admit_given c.args.self.now (entry_of c.args.self.now c.args.seat c.args.source c.args.key.now c.args.version) room,
      ),
    )

-- what was admitted
abbrev entry : After-append_reserved → Entry
entry c = record {
  number = length c.reserve.new.self.entries;
  seat = c.args.seat;
  source = c.args.source;
  key = c.in_ok-key.key;
  version = c.args.version;
}

is_admitted : (c : After-append_reserved)
    → IsAdmitted (record { config = c.self.inside.config; entries = c.self.inside.journal.entries; marks = c.self.inside.tree.marks }) (entry c)
    (record { config = c.self.inside.config; entries = c.append_reserved.new.self.entries; marks = c.offer.new.self.marks }) c.offer.new.self
is_admitted c =
    let s : Store = record { config = c.self.inside.config; entries = c.self.inside.journal.entries; marks = c.self.inside.tree.marks } in
    let e = entry c in
    let key : c.args.key.now ≡ e.key = sym c.in_ok-key.ensures.1 in
    let back : c.args.self.now ≡ s = sym c.self.view_is in
    let entries = ap (λ (t : Log). t.entries) c.append_reserved.ensures.added
    ∙ ap (λ (t : Log). t.entries ++ e ∷ []) (reserve_ok c.self.inside.journal _ 1 c.in_ok-reserve.ensures.reserves).is in
    let tree = tree_is s s c.self.inside.tree refl c.self.invariant.1 refl in
    admitted s e c.append_reserved.new.self.entries c.offer.new.self c.self.invariant.0
    (record {
      here = sym (λ i. place_fault (back i).config (key i) c.args.version.kind c.args.version.value) ∙ c.requires.here;
      news = sym (λ i. knows (back i) (key i) c.args.version) ∙ c.requires.news;
      clock = c.pairs-valid.ensures.valid;
      fits = sym (λ i. offer_fault c.args.version (held (back i).entries (key i))) ∙ c.requires.fits;
    })
    ((given _ _ _ _ c.in_ok-offer.ensures).1 ∙ (λ i. offered_to (tree i) e.key (c.in_ok-row_version.ensures.1 i))) entries

-- the entries afterwards
entries_are : (c : After-append_reserved) → c.append_reserved.new.self.entries ≡ c.self.inside.journal.entries ++ entry c ∷ []
entries_are c = ap (λ (t : Log). t.entries) c.append_reserved.ensures.added
    ∙ ap (λ (t : Log). t.entries ++ entry c ∷ []) (reserve_ok c.self.inside.journal _ 1 c.in_ok-reserve.ensures.reserves).is

pub invariant_of-self-2 : goal.invariant_of-self-2
invariant_of-self-2 c =
    let at = goal.at.invariant_of-self-2 c in
    let is = is_admitted at.After-append_reserved in
    let log = c.append_reserved.ensures.added in
    let i = c.self.inside in
    let s : Store = record { config = i.config; entries = i.journal.entries; marks = i.tree.marks } in
    let e : Entry = entry at.After-append_reserved in
    let kept = table_same i.config.bits i.config.range i.journal.entries i.journal.entries i.table.rows c.prepare_row.new.table.rows
    c.self.invariant.3 refl c.in_ok-row.ensures.same in
    let fits = subst (λ (u : Store). IsFitting u c.args.leaf e.key e.version) (sym c.self.view_is)
    (subst (λ (k : List ℕ). IsFitting c.args.self.now c.args.leaf k e.version) (sym c.in_ok-key.ensures.1) c.requires) in
    let table = table_grown s c.args.leaf e c.append_reserved.new.self.entries c.prepare_row.new.table c.put_at.new.self kept fits
    (entries_are at.After-append_reserved) (c.put_at.ensures ∙ ap (with_put c.prepare_row.new.table) c.in_ok-row.ensures.row.1.1) in (
      is.right,
      is.rows,
      ap (λ (t : Log). t.limit) log
          ∙ ap (λ (t : Log). t.limit) (reserve_ok c.self.inside.journal _ 1 c.in_ok-reserve.ensures.reserves).is ∙ c.self.invariant.2,
      table,
    )

pub returns-clause-admits : goal.returns-clause-admits
returns-clause-admits c =
    let at = goal.at.returns-clause-admits c in
    let i = c.self.inside in
    let s : Store = record { config = i.config; entries = i.journal.entries; marks = i.tree.marks } in
    let now = c.args.self.now in
    let e : Entry = entry at.After-append_reserved in
    let x : Entry = entry_of now c.args.seat c.args.source c.args.key.now c.args.version in
    let log = (reserve_ok i.journal _ 1 c.in_ok-reserve.ensures.reserves).is in
    let room : full_fault now ≡ None = subst (λ (u : Store). full_fault u ≡ None) c.self.view_is
    (room_left s i.journal _ (λ j. s.entries) c.self.invariant.2 (reserve_ok i.journal _ 1 c.in_ok-reserve.ensures.reserves)) in
    let number : length now.entries ≡ length c.reserve.new.self.entries = ap (λ (u : Store). length u.entries) (sym c.self.view_is)
    ∙ sym (ap (λ (t : Log). length t.entries) log) in
    let same : x ≡ e = λ j. record {
      number = number j;
      seat = c.args.seat;
      source = c.args.source;
      key = sym c.in_ok-key.ensures.1 j;
      version = c.args.version;
    } in
    let receipt : e ≡ record {
      number = c.len.result;
      seat = c.args.seat;
      source = c.args.source;
      key = c.in_ok-try_clone.field-0;
      version = c.in_ok-try_clone-2.field-0;
    } =
    λ j. record {
      number = sym c.len.ensures.count j;
      seat = c.args.seat;
      source = c.args.source;
      key = sym c.in_ok-try_clone.ensures.1 j;
      version = sym c.in_ok-try_clone-2.ensures.1 j;
    } in
    let whole : journaled now x ≡ record {
      config = i.config;
      entries = c.append_reserved.new.self.entries;
      marks = c.offer.new.self.marks;
    } = (λ j. journaled (sym c.self.view_is j) (same j)) ∙ sym (is_admitted at.After-append_reserved).is in
    admit_is now x room ∙ (λ j. gives ((same ∙ receipt) j) (whole j))
