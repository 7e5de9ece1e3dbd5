use Rattle.std.proofs.Common.{rules, ◌≡◌, ◌≤◌, ◌∙◌, ℕ, zero, suc, List, [], ◌∷◌, length, refl, ap, arith}
use Rattle.std.specs.List.{insert}
use Rattle.std.specs.Arc.{arc_value}
use Rattle.row_bytes.specs.declared.row.Row.{Row}
use Rattle.hash_tree.specs.Leaves.{Bucket}
use Rattle.hash_tree.specs.Chunks.{first_key}
use Rattle.hash_tree.proofs.OutcomeLaws.{given}
use Rattle.hash_tree.proofs.chunk.Chunk.insert.Goals as goal
use Rattle.hash_tree.proofs.chunk.Chunk.insert.Goals.{then-at-eq0+in_ok-from_slice, else-at-eq0}

-- a row after the first one leaves the first key
stays_first : (rows : List Row) (at : ℕ) (r : Row) → 1 ≤ length rows → 1 ≤ at
    → (1 ≤ length (insert rows at r)) × (first_key rows ≡ first_key (insert rows at r))
stays_first [] at r some later = absurd (omega (arith, some))
stays_first (x ∷ rows) zero r some later = absurd (omega (arith, later))
stays_first (x ∷ rows) (suc at) r some later = (omega arith, refl)

pub invariant_of-self-in_default : goal.invariant_of-self-in_default
invariant_of-self-in_default c =
    let rows = (arc_value c.self.inside.held).rows in
    let held : arc_value (c.make_mut.follows.lender c.insert.new.self) ≡ c.insert.new.self = search rules in
    let given_rows : c.insert.new.self.rows ≡ insert c.in_ok-make_mut.field-0.now.rows c.args.at c.args.row = ap (λ (b : Bucket). b.rows)
    (given _ _ _ _ c.in_ok-insert.ensures).1 in
    let value : c.in_ok-make_mut.field-0.now ≡ arc_value c.self.inside.held = search rules in
    let new : (arc_value (c.make_mut.follows.lender c.insert.new.self)).rows ≡ insert rows c.args.at c.args.row =
    ap (λ (b : Bucket). b.rows) held ∙ given_rows ∙ ap (λ (b : Bucket). insert b.rows c.args.at c.args.row) value in
    let later : 1 ≤ c.args.at = elim c.if-at-eq0.branch [
      | then-at-eq0+in_ok-from_slice w ↦ absurd
          (c.in_default.not-Some _ w.first-is)
      | else-at-eq0 w ↦ omega (arith, w.if-at-eq0.false)
    ] in
    let both = stays_first rows c.args.at c.args.row c.self.invariant.0 later in
    rw new (both.0, c.self.invariant.1 ∙ both.1)
