use Rattle.std.proofs.Common.{◌≡◌, ◌+◌, ◌-◌, ◌≤◌, [], ◌∷◌, List, length, subst, sym, ap, arith, ◌∙◌}
use Rattle.std.proofs.lemmas.List.{length-append}
use Rattle.row_table.specs.declared.table.TableRow.{TableRow}
use Rattle.row_table.specs.Tables.{Table, IsIndex}
use Rattle.row_table.proofs.TableLaws.{of_more}
use Rattle.row_table.proofs.LargerLaws.{larger_of_more}
use Rattle.row_table.proofs.table.RowTable.insert.Goals as goal

pub add_some-requires-clause-index : goal.add_some-requires-clause-index
add_some-requires-clause-index c =
    let x = c.self.inside.index in
    subst (λ (rs : List TableRow). IsIndex c.self.inside.seed rs x.size x.last.items x.earlier.items)
    (sym (c.deref.ensures.value ∙ c.push_reserved.ensures.items))
    (of_more c.self.inside.seed c.self.inside.rows.items (c.args.row ∷ []) x.size x.last.items x.earlier.items c.self.invariant.0)

pub invariant_of-self : goal.invariant_of-self
invariant_of-self c =
    let s = c.self.inside in
    let rs = s.rows.items in
    let r = c.args.row in
    let x = c.add_some.new.self in
    let room : 1 ≤ s.room = subst (λ (t : Table). 1 ≤ t.room) (sym c.self.view_is) c.requires in
    let long : length c.push_reserved.new.self.items ≡ length rs + 1 = ap length c.push_reserved.ensures.items ∙ length-append rs (r ∷ []) in
    let same = c.deref.ensures.value in (
      subst (λ (xs : List TableRow). IsIndex s.seed xs x.size x.last.items x.earlier.items) same c.add_some.ensures.index,
      omega (arith, long, ap length same, c.add_some.ensures.more, c.self.invariant.1),
      λ _. c.add_some.ensures.whole.1,
      larger_of_more s.seed rs s.room r s.larger c.push_reserved.new.self.items (s.room - 1) c.self.invariant.3 c.push_reserved.ensures.items
          (omega (arith, room)),
      omega (arith, room, long, c.self.invariant.4),
      omega (arith, room, long, c.self.invariant.5),
      omega (arith, room, long, c.self.invariant.6),
    )
