use Rattle.std.proofs.Common.{◌≡◌, ◌∷◌, ◌++◌, [], length, sym, ap, arith, ◌∙◌}
use Rattle.std.proofs.lemmas.List.{length-append}
use Rattle.row_table.specs.Tables.{Table, place_of, with_all}
use Rattle.row_table.proofs.TableLaws.{all_push, put_room}
use Rattle.row_table.proofs.table.RowTable.put_all.Goals as goal

pub loop-row-preserved : goal.loop-row-preserved
loop-row-preserved c =
    let t = c.loop-row.self in
    let row = c.in-Some.row in
    let rest = c.pop.new.self.items in
    let items : c.loop-row.rows.items ≡ rest ++ row ∷ [] = c.in-Some.ensures.items in
    record {
      left = ap (λ (u : Table). with_all u rest) c.put_at.ensures ∙ sym (all_push t rest row) ∙ ap (with_all t) (sym items)
          ∙ c.loop-row.invariant.left;
      room = omega (
        arith,
        c.loop-row.invariant.room,
        ap length items,
        length-append rest (row ∷ []),
        put_room t (place_of t.rows row.key) row,
        ap (λ (u : Table). u.room) c.put_at.ensures,
      );
    }
