use Rattle.std.proofs.Common.{◌≡◌, ◌≤◌, ◌+◌, ◌-◌, ℕ, List, Vec, Global, Option, false, length, min, subst, sym, ap, arith, ◌∙◌}
use Rattle.std.specs.Prelude.{nat_eq, IfSome}
use Rattle.std.specs.Vec.{vec_capacity}
use Rattle.row_table.specs.declared.index.Index.{Index}
use Rattle.row_table.specs.declared.table.TableRow.{TableRow}
use Rattle.row_table.specs.Tables.{IsIndex}
use Rattle.row_table.proofs.TableLaws.{no_rows, widened}
use Rattle.row_table.proofs.LargerLaws.{IsLarger}
use Rattle.row_table.proofs.table.RowTable.grow.Goals as goal
use Rattle.row_table.proofs.table.RowTable.grow.Goals.{then-is_whole+else-len, else-is_whole}

-- the larger index before
larger : (c : goal.Joined-self) → IsLarger c.self.inside.seed c.self.inside.rows.items c.self.inside.room c.in-Some.larger
larger c = subst (λ (o : Option Index). IfSome o (IsLarger c.self.inside.seed c.self.inside.rows.items c.self.inside.room))
    (sym c.in-Some.ensures.value) c.self.invariant.3

pub invariant_of-self-2 : goal.invariant_of-self-2
invariant_of-self-2 c = (
  c.self.invariant.0,
  c.self.invariant.1,
  c.self.invariant.2,
  elim c.if-is_whole.branch [
    | then-is_whole+else-len w ↦
        let x = w.add_some.new.self in
        let was = larger c in
        let rows = w.deref.ensures.value in
        subst (IsLarger c.self.inside.seed c.self.inside.rows.items c.self.inside.room) (sym w.larger-is) (
          subst (λ (rs : List TableRow). IsIndex c.self.inside.seed rs x.size x.last.items x.earlier.items) rows w.add_some.ensures.index,
          omega (arith, w.add_some.ensures.whole.1, x.last.ok),
          omega (arith, was.2, w.add_some.ensures.room),
        )
    | else-is_whole w ↦
        let x = w.widen.new.self in
        let old = c.in-Some.larger in
        let was = larger c in
        let seed = c.self.inside.seed in
        let rs = c.self.inside.rows.items in
        let n = min 32 (old.size - length old.last.items) in
        let few : length old.last.items + n ≤ old.size = omega (arith, was.0.few) in
        let partly : nat_eq (length old.last.items) old.size ≡ false = sym c.is_whole.ensures ∙ w.if-is_whole.false in
        let none : length old.earlier.items ≡ 0 = no_rows seed rs old.size old.last.items old.earlier.items was.0 partly in
        let wide = widened seed rs old.size old.last.items old.earlier.items n x.last.items was.0 none few w.widen.ensures.last in
        let earlier : x.earlier ≡ old.earlier = w.widen.ensures.kept.1 in
        let size : x.size ≡ old.size = w.widen.ensures.kept.0 in
        subst (IsLarger seed rs c.self.inside.room) (sym w.larger-is) (
          subst (λ (e : Vec ℕ Global). IsIndex seed rs x.size x.last.items e.items) (sym earlier)
              (subst (λ n. IsIndex seed rs n x.last.items old.earlier.items) (sym size) wide),
          omega (arith, was.1, size, w.widen.ensures.room),
          omega (arith, was.2, ap vec_capacity earlier),
        )
  ],
  c.self.invariant.4,
  c.self.invariant.5,
  c.self.invariant.6,
)
