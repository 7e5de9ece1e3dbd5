use Rattle.std.proofs.Common.{◌≡◌, ◌<◌, ◌≤◌, ◌+◌, ℕ, List, [], length, Option, None, Some, subst, sym, ap, arith, ◌∙◌}
use Rattle.std.specs.Option.{IfSome}
use Rattle.std.specs.Vec.{vec_capacity}
use Rattle.row_table.specs.declared.index.Index.{Index}
use Rattle.row_table.specs.declared.table.TableRow.{TableRow}
use Rattle.row_table.specs.Tables.{Table, IsIndex}
use Rattle.row_table.proofs.TableLaws.{begun}
use Rattle.row_table.proofs.LargerLaws.{IsLarger, IsTable, of_reserved}
use Rattle.row_table.proofs.table.RowTable.make_room.Goals as goal
use Rattle.row_table.proofs.table.RowTable.make_room.Goals.{then-rows-len+in_ok-self-inside+in-Some-1, then-rows-len+in_ok-self-inside+in-None-1}
use Rattle.row_table.proofs.table.RowTable.make_room.Goals.{else-rows-len+in_ok-reserve-2+in-Some+in_ok-reserve-3}
use Rattle.row_table.proofs.table.RowTable.make_room.Goals.{else-rows-len+in_ok-reserve-2+in_default+then-size-all+in_ok-with_room+in-Some-1}
use Rattle.row_table.proofs.table.RowTable.make_room.Goals.{else-rows-len+in_ok-reserve-2+in_default+then-size-all+in_ok-with_room+in-None-1}
use Rattle.row_table.proofs.table.RowTable.make_room.Goals.{else-rows-len+in_ok-reserve-2+in_default+else-size-all}

-- the rows are those before
few : (c : goal.After-self-2-1) → length c.reserve.new.self.items + c.args.rows ≤ 4294967295
few c = omega (
  arith,
  subst (λ (t : Table). length t.rows + c.args.rows ≤ 4294967295) (sym c.self.view_is) c.requires.few,
  ap length c.reserve.ensures.items,
)

-- the table with one of the indexes and one of the larger ones
table : (c : goal.After-self-2-1) (x : Index) (larger : Option Index)
    → IsIndex c.self.inside.seed c.reserve.new.self.items x.size x.last.items x.earlier.items
    → length x.earlier.items ≡ length c.reserve.new.self.items
    → length x.last.items ≡ x.size → length c.reserve.new.self.items + c.args.rows ≤ vec_capacity x.earlier
    → IfSome larger (IsLarger c.self.inside.seed c.reserve.new.self.items c.args.rows)
    → IsTable c.self.inside.seed c.reserve.new.self x larger c.args.rows
table c x larger is all whole room held =
    (is, all, λ _. whole, held, few c, omega (arith, c.in_ok-reserve.ensures.ok, ap length c.reserve.ensures.items, c.self.inside.rows.ok), room)

-- the index that was, with more room
reserved : (c : goal.After-self-2-1) (x : Index) (larger : Option Index) → (x.size ≡ c.self.inside.index.size) × (x.last ≡ c.self.inside.index.last)
    × (x.earlier.items ≡ c.self.inside.index.earlier.items) → c.args.rows ≤ c.len.result
    → c.len.result + c.args.rows ≤ vec_capacity x.earlier → IfSome larger (IsLarger c.self.inside.seed c.reserve.new.self.items c.args.rows)
    → IsTable c.self.inside.seed c.reserve.new.self x larger c.args.rows
reserved c x larger kept less room held =
    let s = c.self.inside in
    let rows = c.reserve.ensures.items in
    let is = of_reserved s.seed c.reserve.new.self.items s.index x
    (subst (λ (rs : List TableRow). IsIndex s.seed rs s.index.size s.index.last.items s.index.earlier.items) (sym rows) c.self.invariant.0)
    kept in
    let all : length x.earlier.items ≡ length c.reserve.new.self.items = ap length kept.2 ∙ c.self.invariant.1 ∙ ap length (sym rows) in
    let some : 0 < length x.earlier.items = omega (arith, all, ap length rows, less, c.len.ensures, s.rows.ok, c.requires.more) in
    table c x larger is all (is.whole some) (omega (arith, room, c.len.ensures, s.rows.ok, ap length rows)) held

-- a larger index that begins
larger_begun : (c : goal.After-self-2-1) (x : Index) → 0 < x.size → (x.last.items ≡ []) × (x.size ≤ vec_capacity x.last)
    → (x.earlier.items ≡ []) × (c.len.result + c.args.rows ≤ vec_capacity x.earlier)
    → IsLarger c.self.inside.seed c.reserve.new.self.items c.args.rows x
larger_begun c x some last earlier = (
  subst (λ (ns : List ℕ). IsIndex c.self.inside.seed c.reserve.new.self.items x.size ns x.earlier.items) (sym last.0)
      (subst (λ (ns : List ℕ). IsIndex c.self.inside.seed c.reserve.new.self.items x.size [] ns) (sym earlier.0)
      (begun c.self.inside.seed c.reserve.new.self.items x.size some)),
  last.1,
  omega (arith, earlier.1, c.len.ensures, c.self.inside.rows.ok, ap length c.reserve.ensures.items),
)

-- a larger index that has more room
larger_reserved : (c : goal.After-self-2-1) (x y : Index) → IsLarger c.self.inside.seed c.self.inside.rows.items c.self.inside.room x
    → (y.size ≡ x.size) × (y.last ≡ x.last) × (y.earlier.items ≡ x.earlier.items)
    → c.len.result + c.args.rows ≤ vec_capacity y.earlier → IsLarger c.self.inside.seed c.reserve.new.self.items c.args.rows y
larger_reserved c x y was kept room = (
  of_reserved c.self.inside.seed c.reserve.new.self.items x y
      (subst (λ (rs : List TableRow). IsIndex c.self.inside.seed rs x.size x.last.items x.earlier.items) (sym c.reserve.ensures.items) was.0) kept,
  omega (arith, was.1, kept.0, ap vec_capacity kept.1),
  omega (arith, room, c.len.ensures, c.self.inside.rows.ok, ap length c.reserve.ensures.items),
)

pub invariant_of-self-2 : goal.invariant_of-self-2
invariant_of-self-2 c = elim c.if-rows-len.branch [
  | then-rows-len+in_ok-self-inside+in-Some-1 w ↦ subst (λ s. IsTable s.seed s.rows s.index s.larger c.args.rows) (sym w.self-inside-is) (
      table c w.in_ok-self-inside.field-0 None
      (subst (λ (rs : List TableRow). IsIndex c.self.inside.seed rs w.in_ok-self-inside.field-0.size w.in_ok-self-inside.field-0.last.items
      w.in_ok-self-inside.field-0.earlier.items) w.deref.ensures.value w.in_ok-self-inside.ensures.index)
      (w.in_ok-self-inside.ensures.all ∙ ap length w.deref.ensures.value) w.in_ok-self-inside.ensures.whole
      (omega (arith, w.in_ok-self-inside.ensures.room, c.len.ensures, c.self.inside.rows.ok, ap length c.reserve.ensures.items)) tt
      )
  | then-rows-len+in_ok-self-inside+in-None-1 w ↦ subst (λ s. IsTable s.seed s.rows s.index s.larger c.args.rows) (sym w.self-inside-is) (
      table c w.in_ok-self-inside.field-0 None
      (subst (λ (rs : List TableRow). IsIndex c.self.inside.seed rs w.in_ok-self-inside.field-0.size w.in_ok-self-inside.field-0.last.items
      w.in_ok-self-inside.field-0.earlier.items) w.deref.ensures.value w.in_ok-self-inside.ensures.index)
      (w.in_ok-self-inside.ensures.all ∙ ap length w.deref.ensures.value) w.in_ok-self-inside.ensures.whole
      (omega (arith, w.in_ok-self-inside.ensures.room, c.len.ensures, c.self.inside.rows.ok, ap length c.reserve.ensures.items)) tt
      )
  | else-rows-len+in_ok-reserve-2+in-Some+in_ok-reserve-3 w ↦ subst (λ s. IsTable s.seed s.rows s.index s.larger c.args.rows) (sym w.self-inside-is) (
      reserved c w.reserve-else-rows-len.new.self (Some w.reserve-in-Some.new.self) w.reserve-else-rows-len.ensures.kept
      (omega (arith, w.if-rows-len.false, c.len-2.ensures, c.len.ensures, c.reserve.ensures.len)) w.in_ok-reserve-2.ensures.room
      (larger_reserved c w.in-Some.larger w.reserve-in-Some.new.self
      (subst (λ (o : Option Index). IfSome o (IsLarger c.self.inside.seed c.self.inside.rows.items c.self.inside.room)) w.in-Some.is
      c.self.invariant.3)
      w.reserve-in-Some.ensures.kept w.in_ok-reserve-3.ensures.room)
      )
  | else-rows-len+in_ok-reserve-2+in_default+then-size-all+in_ok-with_room+in-Some-1 w ↦ subst
      (λ s. IsTable s.seed s.rows s.index s.larger c.args.rows) (sym w.self-inside-is) (
      reserved c w.reserve-else-rows-len.new.self (Some w.in_ok-with_room.field-0) w.reserve-else-rows-len.ensures.kept
      (omega (arith, w.if-rows-len.false, c.len-2.ensures, c.len.ensures, c.reserve.ensures.len)) w.in_ok-reserve-2.ensures.room
      (larger_begun c w.in_ok-with_room.field-0 w.in_ok-with_room.ensures.size w.in_ok-with_room.ensures.last w.in_ok-with_room.ensures.earlier)
      )
  | else-rows-len+in_ok-reserve-2+in_default+then-size-all+in_ok-with_room+in-None-1 w ↦ subst
      (λ s. IsTable s.seed s.rows s.index s.larger c.args.rows) (sym w.self-inside-is) (
      reserved c w.reserve-else-rows-len.new.self (Some w.in_ok-with_room.field-0) w.reserve-else-rows-len.ensures.kept
      (omega (arith, w.if-rows-len.false, c.len-2.ensures, c.len.ensures, c.reserve.ensures.len)) w.in_ok-reserve-2.ensures.room
      (larger_begun c w.in_ok-with_room.field-0 w.in_ok-with_room.ensures.size w.in_ok-with_room.ensures.last w.in_ok-with_room.ensures.earlier)
      )
  | else-rows-len+in_ok-reserve-2+in_default+else-size-all w ↦ subst (λ s. IsTable s.seed s.rows s.index s.larger c.args.rows) (sym w.self-inside-is)
      (
      reserved c w.reserve-else-rows-len.new.self c.self.inside.larger w.reserve-else-rows-len.ensures.kept
      (omega (arith, w.if-rows-len.false, c.len-2.ensures, c.len.ensures, c.reserve.ensures.len)) w.in_ok-reserve-2.ensures.room
      (subst (λ (o : Option Index). IfSome o (IsLarger c.self.inside.seed c.reserve.new.self.items c.args.rows)) (sym w.in_default.is) tt)
      )
]
