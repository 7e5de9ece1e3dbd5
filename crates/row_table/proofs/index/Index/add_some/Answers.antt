use Rattle.std.proofs.Common.{◌≡◌, ◌+◌, ◌<◌, [], ◌∷◌, length, Some, slice_get, slice_index_or, subst, refl, sym, ap, arith, ◌∙◌}
use Rattle.std.proofs.lemmas.List.{length-append, length-set}
use Rattle.std.proofs.lemmas.Option.{slice_get_read}
use Rattle.row_table.specs.declared.table.TableRow.{TableRow}
use Rattle.row_table.specs.Tables.{bucket_of, IsIndex}
use Rattle.row_table.proofs.TableLaws.{added}
use Rattle.row_table.proofs.index.Index.add_some.Goals as goal

pub loop-place-preserved : goal.loop-place-preserved
loop-place-preserved c =
    let was = c.loop-place.self in
    let held = c.loop-place.invariant in
    let rows = c.args.rows.now in
    let r : TableRow = c.index-rows-place.result in
    let below : c.loop-place.place < length rows = omega (arith, c.loop-place-test.true, held.end) in
    let read : slice_get rows c.loop-place.place ≡ Some r = slice_get_read rows (length rows) c.loop-place.place r refl below c.index-rows-place.is in
    let at : slice_get rows (length was.earlier.items) ≡ Some r = ap (slice_get rows) held.at ∙ read in
    let size : c.add.new.self.size ≡ was.size = c.add.ensures.kept.0 in
    let now = added c.args.seed rows was.size was.last.items was.earlier.items r c.add.new.self.last.items c.add.new.self.earlier.items held.index
    held.whole at c.add.ensures.last c.add.ensures.earlier in
    record {
      index = subst (λ n. IsIndex c.args.seed rows n c.add.new.self.last.items c.add.new.self.earlier.items) (sym size) now;
      whole = ap length c.add.ensures.last ∙ length-set was.last.items (bucket_of c.args.seed was.size r.key) (length was.earlier.items + 1)
          ∙ held.whole ∙ sym size;
      size = size ∙ held.size;
      at = ap length c.add.ensures.earlier
          ∙ length-append was.earlier.items (slice_index_or was.last.items (bucket_of c.args.seed was.size r.key) 0 ∷ []) ∙ ap (λ n. n + 1) held.at;
      end = held.end;
      capacity = c.add.ensures.kept.1 ∙ held.capacity;
    }
