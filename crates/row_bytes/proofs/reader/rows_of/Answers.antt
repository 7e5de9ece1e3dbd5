use Rattle.std.proofs.Common.{◌≡◌, [], length, true, false, inl, inr, refl}
use Rattle.std.proofs.lemmas.Result.{err_from_is_err_and}
use Rattle.row_bytes.specs.Rows.{is_before}
use Rattle.row_bytes.specs.Reading.{last_key, rows_at}
use Rattle.row_bytes.proofs.Heads.{begun_more}
use Rattle.row_bytes.proofs.ManyRowLaws.{row_shorter, way_begins, way_goes_on, way_done, way_refused, way_ended, some_left, none_left}
use Rattle.row_bytes.proofs.reader.rows_of.Goals as goal

pub rows-init : goal.rows-init
rows-init c = record { way = rw c.new-rows.ensures.items (way_begins c.args.format c.args.text.now); begun = inl refl }

pub returns-in_err-row : goal.returns-in_err-row
returns-in_err-row c =
    let p = err_from_is_err_and c.from_residual.result c.from_residual.ensures.1 in
    let l = c.rows in
    rw (p.1, p.2) (way_ended c.in_err-row.field-0.0 c.args.format l.rows.items c.args.text.now l.rest.now
    (rows_at c.args.format (length c.args.text.now) [] [] c.args.text.now) l.invariant.way l.invariant.begun
    (some_left c.is_empty.result l.rest.now c.is_empty.ensures c.rows-test.true) c.in_err-row.ensures)

pub returns-then-not-stands_before : goal.returns-then-not-stands_before
returns-then-not-stands_before c =
    let l = c.rows in
    let f : is_before (last_key l.rows.items) c.in_ok-row.row.key ≡ false = cc
    (c.if-not-stands_before.true, c.stands_before.ensures, c.last_key.ensures, c.deref.ensures.value, c.as_slice.ensures) in
    way_refused c.args.format l.rows.items l.rest.now c.in_ok-row.row c.in_ok-row.after.now
    (rows_at c.args.format (length c.args.text.now) [] [] c.args.text.now) l.invariant.way c.in_ok-row.ensures f

pub returns-in_err-push : goal.returns-in_err-push
returns-in_err-push c =
    let p = err_from_is_err_and c.from_residual-in_err-push.result c.from_residual-in_err-push.ensures.1 in
    rw (p.1, p.2) (begun_more c.args.format c.args.text.now c.rows.rest.now
    (c.in_ok-row.row, c.in_ok-row.after.now) c.rows.invariant.begun c.in_ok-row.ensures)

pub rows-smaller : goal.rows-smaller
rows-smaller c = row_shorter c.args.format c.rows.rest.now (c.in_ok-row.row, c.in_ok-row.after.now) c.in_ok-row.ensures

pub rows-preserved : goal.rows-preserved
rows-preserved c =
    let l = c.rows in
    let t : is_before (last_key l.rows.items) c.in_ok-row.row.key ≡ true = cc
    (c.if-not-stands_before.false, c.stands_before.ensures, c.last_key.ensures, c.deref.ensures.value, c.as_slice.ensures) in
    record {
      way = rw c.in_ok-push.ensures.items
          (way_goes_on c.args.format l.rows.items l.rest.now c.in_ok-row.row c.in_ok-row.after.now
          (rows_at c.args.format (length c.args.text.now) [] [] c.args.text.now) l.invariant.way c.in_ok-row.ensures t);
      begun = inr (begun_more c.args.format c.args.text.now l.rest.now
          (c.in_ok-row.row, c.in_ok-row.after.now) l.invariant.begun c.in_ok-row.ensures);
    }

pub returns : goal.returns
returns c = way_done c.args.format c.rows.rows.items c.rows.rest.now
    (rows_at c.args.format (length c.args.text.now) [] [] c.args.text.now) c.rows.invariant.way
    (none_left c.is_empty.result c.rows.rest.now c.is_empty.ensures c.rows-test.false)
