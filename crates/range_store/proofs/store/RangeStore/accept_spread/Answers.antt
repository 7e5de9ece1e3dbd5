use Rattle.std.proofs.Common.{◌≡◌, ◌++◌, length, map, sym, ap, subst, ◌∙◌, arith, refl}
use Rattle.std.proofs.lemmas.Result.{err_from_is_err_and}
use Rattle.vclock.specs.Outcome.{gives}
use Rattle.range_journal.specs.Log.{Log}
use Rattle.range_journal.proofs.JournalLaws.{reserve_ok}
use Rattle.range_journal.specs.declared.journal.Source.TheVariants.{Copy}
use Rattle.row_table.specs.Tables.{Table, with_all, with_room}
use Rattle.snapshot.specs.RowMaps.{RowMap}
use Rattle.range_store.specs.Store.{Store, IsSound, rows_now}
use Rattle.range_store.specs.TableRows.{IsTableOf, row_from}
use Rattle.range_store.proofs.TableBatchLaws.{table_spread}
use Rattle.range_store.specs.Offers.{offers_of}
use Rattle.range_store.proofs.LoadLaws.{IsLogOf, log_of, room_in, load_given, load_refused}
use Rattle.range_store.proofs.SpreadLaws.{spread_map, spread_state, spread_is, spread_right, spread_rows, spread_entries}
use Rattle.range_store.proofs.store.RangeStore.accept_spread.Goals as goal
use Rattle.range_store.proofs.store.RangeStore.accept_spread.Goals.{After-self, After-append_entries}

-- the store before, by its fields
abbrev before : After-self → Store
before c = record { config = c.self.inside.config; entries = c.self.inside.journal.entries; marks = c.self.inside.tree.marks }

-- the journal of the store
journal : (c : After-self) → IsLogOf c.args.self.now c.self.inside.journal
journal c = log_of (before c) c.args.self.now c.self.inside.journal c.self.view_is refl c.self.invariant.2

pub returns-in_err-reserve : goal.returns-in_err-reserve
returns-in_err-reserve c =
    λ seat rows is.
    let now = c.args.self.now in
    let entries = c.args.spread.entries in
    let p = err_from_is_err_and c.from_residual.result c.from_residual.ensures.1 in
    let reserves = c.in_err-reserve.ensures.reserves in
    let back = ap (λ (l : Log). record { config = c.self.inside.config; entries = l.entries; marks = c.self.inside.tree.marks }) reserves.0
    ∙ c.self.view_is in
    rw (p.1, p.2) (
      back,
      load_refused now seat Copy
          (offers_of rows) entries.items c.args.spread.known c.in_err-reserve.field-0.0 c.self.inside.journal _
          (spread_entries now seat rows c.args.spread is) (journal (goal.at.returns-in_err-reserve c).After-self)
          (omega (arith, c.len-taken.ensures, entries.ok)) reserves.1,
    )

-- the tree with the versions is of the range
spread_config : (c : After-self) → c.args.spread.tree.map ≡ record (rows_now (before c)) { rows = c.args.spread.tree.map.rows }
spread_config c =
    spread_map c.args.self.now c.requires.0 (offers_of c.requires.1) c.args.spread c.requires.2.spread_is
    ∙ ap (λ (u : Store). record (rows_now u) { rows = c.args.spread.tree.map.rows }) (sym c.self.view_is)

pub rows_from_tree-requires-clause-format : goal.rows_from_tree-requires-clause-format
rows_from_tree-requires-clause-format c = ap (λ (m : RowMap). m.format) (spread_config (goal.at.rows_from_tree-requires-clause-format c).After-self)

pub rows_from_tree-requires-clause-bits : goal.rows_from_tree-requires-clause-bits
rows_from_tree-requires-clause-bits c = ap (λ (m : RowMap). m.bits) (spread_config (goal.at.rows_from_tree-requires-clause-bits c).After-self)

-- the store afterwards
whole : (c : After-append_entries)
    → record {
      config = c.self.inside.config;
      entries = c.append_entries.new.self.entries;
      marks = c.args.spread.tree.marks;
    } ≡ spread_state c.args.self.now c.args.spread
whole c =
    let log = (reserve_ok c.self.inside.journal _ _ c.in_ok-reserve.ensures.reserves).is in
    let entries = ap (λ (l : Log). l.entries) c.append_entries.ensures ∙ (λ i. (log i).entries ++ c.args.spread.entries.items) in
    (λ i. record { config = c.self.inside.config; entries = entries i; marks = c.args.spread.tree.marks })
    ∙ ap (λ (u : Store). spread_state u c.args.spread) c.self.view_is

pub invariant_of-self-2 : goal.invariant_of-self-2
invariant_of-self-2 c =
    let now = c.args.self.now in
    let seat = c.requires.0 in
    let rows = c.requires.1 in
    let is = c.requires.2 in
    let ok = subst IsSound c.self.view_is c.self.invariant.0 in
    let at = goal.at.invariant_of-self-2 c in
    let end = whole at.After-append_entries in
    let given = c.in_ok-reserve-2.ensures in
    let reserved : c.reserve-2.new.self ≡ with_room c.self.inside.table c.len-taken.result = cc in
    let i = c.self.inside in
    let table = subst (λ (t : Table). IsTableOf i.config.bits i.config.range i.journal.entries t.rows) (sym reserved) c.self.invariant.3 in
    let made = c.in_ok-rows.ensures.1 ∙ ap (map (row_from c.self.inside.config.bits c.args.spread.tree.map.rows)) c.deref.ensures.value in (
      subst IsSound (sym end) (spread_right now seat rows c.args.spread ok is),
      spread_rows now seat rows c.args.spread is ∙ ap rows_now (sym end),
      ap (λ (l : Log). l.limit) c.append_entries.ensures
          ∙ ap (λ (l : Log). l.limit) (reserve_ok c.self.inside.journal _ _ c.in_ok-reserve.ensures.reserves).is ∙ c.self.invariant.2,
      table_spread (before at.After-self) now seat rows c.args.spread c.reserve-2.new.self c.put_all.new.self c.append_entries.new.self.entries
          c.self.view_is table is (c.put_all.ensures ∙ ap (with_all c.reserve-2.new.self) made) (ap (λ (u : Store). u.entries) end),
    )

pub returns : goal.returns
returns c =
    λ seat rows is.
    let now = c.args.self.now in
    let at = goal.at.returns c in
    let entries = c.args.spread.entries in
    let room = room_in now c.self.inside.journal _ _ (journal at.After-self)
    (reserve_ok c.self.inside.journal _ _ c.in_ok-reserve.ensures.reserves) in
    let len : length entries.items ≡ c.len-taken.result = omega (arith, c.len-taken.ensures, entries.ok) in
    let end = sym (whole at.After-append_entries ∙ spread_is now seat rows c.args.spread is) in
    load_given now seat Copy (offers_of rows) entries.items c.args.spread.known (spread_entries now seat rows c.args.spread is)
    (omega (arith, room, len)) ∙ (λ i. gives (record { taken = len i; known = c.args.spread.known }) (end i))
