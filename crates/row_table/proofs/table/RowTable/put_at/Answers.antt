use Rattle.std.proofs.Common.{sym, ap, arith, ◌∙◌}
use Rattle.std.proofs.lemmas.List.{length-set}
use Rattle.std.proofs.lemmas.Option.{slice_get_within}
use Rattle.row_table.specs.Tables.{Table, place_of}
use Rattle.row_table.proofs.TableLaws.{IsFound, found, replaced}
use Rattle.row_table.proofs.LargerLaws.{larger_replaced}
use Rattle.row_table.proofs.table.RowTable.put_at.Goals as goal
use Rattle.row_table.proofs.table.RowTable.put_at.Goals.{After-self}

-- the row that has the place
there : (c : After-self) → IsFound c.self.inside.rows.items c.args.row.key c.in-Some.place
there c = found c.self.inside.rows.items c.args.row.key c.in-Some.place (ap (λ (t : Table). place_of t.rows c.args.row.key) c.self.view_is
    ∙ sym c.requires.place ∙ c.in-Some.is)

pub index_mut-requires : goal.index_mut-requires
index_mut-requires c =
    let f = there (goal.at.index_mut-requires c).After-self in
    omega (arith, c.self.inside.rows.ok, slice_get_within c.self.inside.rows.items c.in-Some.place f.row f.at)

pub invariant_of-self : goal.invariant_of-self
invariant_of-self c =
    let f = there (goal.at.invariant_of-self c).After-self in
    let s = c.self.inside in
    let rs = s.rows.items in
    let place = c.in-Some.place in
    let r = c.args.row in
    let long = length-set rs place r in (
      replaced s.seed rs s.index.size s.index.last.items s.index.earlier.items place f.row r c.self.invariant.0 f.at (sym f.key_is),
      omega (arith, long, c.self.invariant.1),
      c.self.invariant.2,
      larger_replaced s.seed rs s.room place f.row r s.larger c.self.invariant.3 f.at (sym f.key_is),
      omega (arith, long, c.self.invariant.4),
      omega (arith, long, c.self.invariant.5),
      omega (arith, long, c.self.invariant.6),
    )
