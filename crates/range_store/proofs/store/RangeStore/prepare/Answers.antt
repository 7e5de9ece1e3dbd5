use Rattle.std.proofs.Common.{◌≡◌, ◌+◌, ◌++◌, ◌∙◌, List, length, take, drop, append-nil, refl, sym, subst, ap, arith}
use Rattle.std.proofs.lemmas.Result.{err_from_is_err_and}
use Rattle.std.proofs.lemmas.List.Folds.{length-flat_map-take}
use Rattle.row_bytes.specs.declared.row.Row.{Row}
use Rattle.range_store.specs.declared.store.batch.Batch.{Batch}
use Rattle.range_journal.specs.declared.journal.Entry.{Entry}
use Rattle.range_journal.specs.Log.{AreNumberedFrom}
use Rattle.snapshot.specs.RowMaps.{RowMap}
use Rattle.range_tree.specs.Trees as trees
use Rattle.range_store.specs.Store.{bucket_of, rows_now}
use Rattle.range_store.specs.Offers.{offers_in, offers_of}
use Rattle.range_store.proofs.BatchLaws.{Offers, going_err, going_more, from_none, offers_next, offers_split}
use Rattle.range_store.proofs.store.RangeStore.prepare.Goals as goal

pub prepare_row-requires-clause-few : goal.prepare_row-requires-clause-few
prepare_row-requires-clause-few c =
    let rows = c.args.rows.now in
    let i = c.loop-row.row-index in
    let r = c.row-item.result in
    let room = length-flat_map-take offers_in rows i r c.loop-row-test.true in
    let here = ap (λ (x : Row). length (offers_in x)) c.row-item.is in
    let none = ap length c.new.ensures.items in
    omega (arith, room, here, none, c.loop-row.invariant.prepared.count, c.requires.few)

pub returns-in_err-prepare_row : goal.returns-in_err-prepare_row
returns-in_err-prepare_row c =
    let s = c.args.self.now in
    let rows = c.args.rows.now in
    let i = c.loop-row.row-index in
    let r = c.row-item.result in
    let a : Batch = record { leaf = c.in_ok-share.field-0; entries = c.new.result; known = 0 } in
    let all : offers_of rows ≡ (offers_of (take i rows) ++ offers_in r) ++ offers_of (drop (i + 1) rows) =
    offers_split rows (i + 1) ∙ ap (λ (os : Offers). os ++ offers_of (drop (i + 1) rows)) (offers_next rows i r c.loop-row-test.true c.row-item.is) in
    let p = err_from_is_err_and c.from_residual-in_err-prepare_row.result c.from_residual-in_err-prepare_row.ensures.1 in
    let shown = going_err s c.args.seat c.args.source c.args.leaf (offers_of (take i rows)) (offers_in r) (offers_of (drop (i + 1) rows))
    (offers_of rows) a c.loop-row.batch c.in_err-prepare_row.field-0.0 c.loop-row.invariant all c.in_err-prepare_row.ensures.answers in
    let e = c.in_err-prepare_row.field-0.0 in
    rw (p.1, p.2) (rw (from_none s c.args.seat c.args.source (offers_of rows) a c.new.ensures.items) at shown)

pub loop-row-preserved : goal.loop-row-preserved
loop-row-preserved c =
    let s = c.args.self.now in
    let rows = c.args.rows.now in
    let i = c.loop-row.row-index in
    let r = c.row-item.result in
    let a : Batch = record { leaf = c.in_ok-share.field-0; entries = c.new.result; known = 0 } in
    going_more s c.args.seat c.args.source c.args.leaf (offers_of (take i rows)) (offers_in r)
    (offers_of (take (i + 1) rows)) a c.loop-row.batch c.prepare_row.new.batch c.loop-row.invariant
    (offers_next rows i r c.loop-row-test.true c.row-item.is) c.in_ok-prepare_row.ensures.answers.0 c.in_ok-prepare_row.ensures.ok

pub loop-row-init : goal.loop-row-init
loop-row-init c =
    let s = c.args.self.now in
    let now : rows_now (record { config = c.self.inside.config; entries = c.self.inside.journal.entries; marks = c.self.inside.tree.marks })
    ≡ rows_now s = ap rows_now c.self.view_is in
    let leaf = c.in_ok-share.ensures.1 ∙ c.rows.ensures ∙ ap (λ (m : RowMap). trees.bucket_of m c.args.leaf) (c.self.invariant.1 ∙ now) in
    let whole : s.entries ++ c.new.result.items ≡ s.entries = ap (λ (es : List Entry). s.entries ++ es) c.new.ensures.items ∙ append-nil s.entries in
    record {
      prepared = record {
        batch = record {
          leaf_is = leaf ∙ ap (λ (es : List Entry). bucket_of s.config es c.args.leaf) (sym whole);
          numbered = subst (AreNumberedFrom (length s.entries)) (sym c.new.ensures.items) tt;
        };
        entries = refl;
        count = omega arith;
      };
      none = refl;
    }
