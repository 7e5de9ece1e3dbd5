use Rattle.std.proofs.Common.{◌≡◌, ℕ, List, ◌++◌, length, cond, map, set, sym, ap, subst, ◌∙◌, arith, inl, inr, refl}
use Rattle.std.specs.Prelude.{nat_eq}
use Rattle.std.specs.List.{AllByRecursion}
use Rattle.std.proofs.lemmas.Result.{err_from_is_err_and}
use Rattle.vclock.specs.Outcome.{gives}
use Rattle.vclock.specs.declared.refusal.Refusal.TheVariants.{NoMemory}
use Rattle.range_journal.specs.Log.{Log}
use Rattle.range_journal.proofs.JournalLaws.{reserve_ok}
use Rattle.range_journal.specs.declared.journal.Entry.{Entry}
use Rattle.tree_nodes.specs.Nodes.{dirtied}
use Rattle.snapshot.specs.RowMaps.{RowMap}
use Rattle.snapshot.specs.Snapshots.{leaves_of}
use Rattle.range_tree.specs.Trees.{RangeTree, IsChange, with_rows}
use Rattle.version_set.specs.declared.version.Version.{Version}
use Rattle.range_journal.specs.declared.journal.Source.{Source}
use Rattle.row_table.specs.Tables.{Table, with_all, with_room}
use Rattle.range_store.specs.Store.{Store, IsSound, leaf_in, rows_now, tree_in}
use Rattle.range_store.specs.TableRows.{IsTableOf, row_from}
use Rattle.range_store.proofs.TableBatchLaws.{batch_leaves, table_batch}
use Rattle.range_store.specs.Batches.{IsAcceptable}
use Rattle.range_store.proofs.ChangeLaws.{kept_rows}
use Rattle.range_store.proofs.LoadLaws.{IsTaken, taken_is, taken_right, taken_leaves, IsLogOf, log_of, room_in, load_given, load_memory}
use Rattle.range_store.proofs.LoadLaws.{load_refused, batch_entries}
use Rattle.range_store.proofs.store.RangeStore.accept_batch.Goals as goal
use Rattle.range_store.proofs.store.RangeStore.accept_batch.Goals.{After-self, In_ok-leaves, After-append_entries}

-- the store before, by its fields, and its journal
abbrev before : After-self → Store
before c = record { config = c.self.inside.config; entries = c.self.inside.journal.entries; marks = c.self.inside.tree.marks }

journal : (c : After-self) → IsLogOf c.args.self.now c.self.inside.journal
journal c = log_of (before c) c.args.self.now c.self.inside.journal c.self.view_is refl c.self.invariant.2

-- a journal with the same entries
same : (c : After-self) (es : List Entry) → es ≡ c.self.inside.journal.entries
    → record { config = c.self.inside.config; entries = es; marks = c.self.inside.tree.marks } ≡ c.args.self.now
same c es is = ap (λ (es : List Entry). record { config = c.self.inside.config; entries = es; marks = c.self.inside.tree.marks }) is ∙ c.self.view_is

pub returns-in_err-reserve : goal.returns-in_err-reserve
returns-in_err-reserve c =
    λ seat source offers is.
    let start = (goal.at.returns-in_err-reserve c).After-self in
    let b = c.args.batch in
    let p = err_from_is_err_and c.from_residual.result c.from_residual.ensures.1 in
    let reserves = c.in_err-reserve.ensures.reserves in
    rw (p.1, p.2) (
      same start _ (ap (λ (l : Log). l.entries) reserves.0),
      load_refused c.args.self.now seat source offers b.entries.items b.known c.in_err-reserve.field-0.0 c.self.inside.journal _
          (batch_entries c.args.self.now seat source c.args.leaf offers b is) (journal start)
          (omega (arith, c.len-taken.ensures, b.entries.ok)) reserves.1,
    )

pub returns-in_err-leaves : goal.returns-in_err-leaves
returns-in_err-leaves c =
    λ seat source offers is.
    let start = (goal.at.returns-in_err-leaves c).After-self in
    let b = c.args.batch in
    let p = err_from_is_err_and c.from_residual-in_err-leaves.result c.from_residual-in_err-leaves.ensures.1 in
    let reserved = reserve_ok c.self.inside.journal _ _ c.in_ok-reserve.ensures.reserves in
    let memory : c.in_err-leaves.field-0.0 ≡ NoMemory = elim c.in_err-leaves.ensures [ inl refused ↦ refused.1 | inr clash ↦ absurd cc ] in
    let room = room_in c.args.self.now c.self.inside.journal _ _ (journal start) reserved in
    rw (p.1, p.2) (
      same start _ (ap (λ (l : Log). l.entries) reserved.is),
      load_memory c.args.self.now seat source offers b.entries.items b.known c.in_err-leaves.field-0.0
          (batch_entries c.args.self.now seat source c.args.leaf offers b is) (omega (arith, room, c.len-taken.ensures, b.entries.ok)) memory,
    )

-- the leaves with the batch
changed : (c : In_ok-leaves)
    → IsChange c.self.inside.tree.map c.args.leaf c.in_ok-leaves.leaves
    (rows_now (record c.args.self.now { entries = c.args.self.now.entries ++ c.args.batch.entries.items }))
changed c =
    let now = c.args.self.now in
    let map : rows_now now ≡ c.self.inside.tree.map = ap rows_now (sym c.self.view_is) ∙ sym c.self.invariant.1 in
    let leaves = c.in_ok-leaves.ensures.1 ∙ ap (λ (m : RowMap). set (leaves_of m) c.args.leaf c.args.batch.leaf) (sym map) in
    subst (λ (m : RowMap). IsChange m c.args.leaf c.in_ok-leaves.leaves
    (rows_now (record now { entries = now.entries ++ c.args.batch.entries.items }))) map
    (taken_leaves now c.requires.0 c.requires.1 c.args.leaf c.requires.2 c.args.batch c.in_ok-leaves.leaves
    (subst IsSound c.self.view_is c.self.invariant.0) c.requires.3 leaves)

pub rows_from_leaf-requires : goal.rows_from_leaf-requires
rows_from_leaf-requires c =
    let leaves = batch_leaves c.args.self.now c.requires.0 c.requires.1 c.args.leaf c.requires.2 c.args.batch c.requires.3 in
    subst (λ (u : Store). AllByRecursion (λ (e : Entry). c.args.leaf ≡ leaf_in u.config e.key) c.deref.result.now) (sym c.self.view_is)
    (subst (AllByRecursion (λ (e : Entry). c.args.leaf ≡ leaf_in c.args.self.now.config e.key)) (sym c.deref.ensures.value) leaves)

pub keep_leaves-requires : goal.keep_leaves-requires
keep_leaves-requires c =
    let now = c.args.self.now in
    (rows_now (record now { entries = now.entries ++ c.args.batch.entries.items }), changed (goal.at.keep_leaves-requires c).In_ok-leaves)

-- the tree with it
kept : (c : After-append_entries)
    → IsChange c.self.inside.tree.map c.args.leaf c.in_ok-leaves.leaves
    (rows_now (record c.args.self.now { entries = c.args.self.now.entries ++ c.args.batch.entries.items }))
    → c.keep_leaves.new.tree ≡ record {
      map = rows_now (record c.args.self.now { entries = c.args.self.now.entries ++ c.args.batch.entries.items });
      marks = cond (nat_eq (length c.args.batch.entries.items) 0) c.args.self.now.marks
          (dirtied c.args.self.now.config.format c.args.leaf c.args.self.now.marks);
    }
kept c change =
    let now = c.args.self.now in
    let es = c.args.batch.entries.items in
    let next = rows_now (record now { entries = now.entries ++ es }) in
    let tree : c.self.inside.tree ≡ tree_in now = (λ i. record { map = c.self.invariant.1 i; marks = c.self.inside.tree.marks })
    ∙ ap tree_in c.self.view_is in
    let is = c.keep_leaves.ensures next change
    ∙ ap (λ (xs : List Entry). cond (nat_eq (length xs) 0) c.self.inside.tree (with_rows c.self.inside.tree c.args.leaf next))
    c.deref-2.ensures.value in
    kept_rows now es c.args.leaf c.self.inside.tree c.keep_leaves.new.tree tree is

-- the batch is accepted
is_taken : (c : After-append_entries) (seat : ℕ) (source : Source) (offers : List (List ℕ × Version))
    → c.keep_leaves.new.tree.marks ≡ cond (nat_eq (length c.args.batch.entries.items) 0) c.args.self.now.marks
    (dirtied c.args.self.now.config.format c.args.leaf c.args.self.now.marks)
    → IsAcceptable c.args.self.now seat source c.args.leaf offers c.args.batch
    → IsTaken c.args.self.now seat source c.args.leaf offers c.args.batch c.append_entries.new.self.entries c.keep_leaves.new.tree.marks
is_taken c seat source offers marks is =
    let now = c.args.self.now in
    let b = c.args.batch in
    let log = (reserve_ok c.self.inside.journal _ _ c.in_ok-reserve.ensures.reserves).is in
    record {
      can = is;
      entries_are = ap (λ (l : Log). l.entries) c.append_entries.ensures ∙ (λ i. (log i).entries ++ b.entries.items)
          ∙ ap (λ (u : Store). u.entries ++ b.entries.items) c.self.view_is;
      marks_are = marks;
    }

pub invariant_of-self-2 : goal.invariant_of-self-2
invariant_of-self-2 c =
    let now = c.args.self.now in
    let b = c.args.batch in
    let at = goal.at.invariant_of-self-2 c in
    let tree = kept at.After-append_entries (changed at.In_ok-leaves) in
    let is = is_taken at.After-append_entries c.requires.0 c.requires.1 c.requires.2 (ap (λ (t : RangeTree). t.marks) tree) c.requires.3 in
    let right = taken_right now c.requires.0 c.requires.1 c.args.leaf c.requires.2 b c.append_entries.new.self.entries c.keep_leaves.new.tree.marks
    (subst IsSound c.self.view_is c.self.invariant.0) is in
    let config : c.self.inside.config ≡ now.config = ap (λ (u : Store). u.config) c.self.view_is in
    let given = c.in_ok-reserve-2.ensures in
    let reserved : c.reserve-2.new.self ≡ with_room c.self.inside.table c.len-taken.result = cc in
    let i = c.self.inside in
    let table = subst (λ (t : Table). IsTableOf i.config.bits i.config.range i.journal.entries t.rows) (sym reserved) c.self.invariant.3 in
    let rows = c.in_ok-rows.ensures.1 ∙ ap (map (row_from c.self.inside.config.bits b.leaf.rows)) c.deref.ensures.value in (
      subst (λ (u : Store). IsSound (record { config = u.config; entries = c.append_entries.new.self.entries; marks = c.keep_leaves.new.tree.marks }))
          (sym c.self.view_is) right,
      ap (λ (t : RangeTree). t.map) tree ∙ (λ i. rows_now (record now { config = sym config i; entries = sym is.entries_are i })),
      ap (λ (l : Log). l.limit) c.append_entries.ensures
          ∙ ap (λ (l : Log). l.limit) (reserve_ok c.self.inside.journal _ _ c.in_ok-reserve.ensures.reserves).is ∙ c.self.invariant.2,
      table_batch (before at.After-self) now c.requires.0 c.requires.1 c.args.leaf c.requires.2 b c.reserve-2.new.self c.put_all.new.self
          c.append_entries.new.self.entries
          c.self.view_is table c.requires.3 (c.put_all.ensures ∙ ap (with_all c.reserve-2.new.self) rows) is.entries_are,
    )

pub returns : goal.returns
returns c =
    λ seat source offers is.
    let now = c.args.self.now in
    let b = c.args.batch in
    let at = goal.at.returns c in
    let room = room_in now c.self.inside.journal _ _ (journal at.After-self)
    (reserve_ok c.self.inside.journal _ _ c.in_ok-reserve.ensures.reserves) in
    let len : length b.entries.items ≡ c.len-taken.result = omega (arith, c.len-taken.ensures, b.entries.ok) in
    let tree = kept at.After-append_entries (changed at.In_ok-leaves) in
    let end = taken_is now seat source c.args.leaf offers b c.append_entries.new.self.entries c.keep_leaves.new.tree.marks
    (is_taken at.After-append_entries seat source offers (ap (λ (t : RangeTree). t.marks) tree) is) in
    let whole = (λ i. record {
      config = (c.self.view_is i).config;
      entries = c.append_entries.new.self.entries;
      marks = c.keep_leaves.new.tree.marks;
    }) ∙ end in
    load_given now seat source offers b.entries.items b.known (batch_entries now seat source c.args.leaf offers b is) (omega (arith, room, len))
    ∙ (λ i. gives (record { taken = len i; known = b.known }) (sym whole i))
