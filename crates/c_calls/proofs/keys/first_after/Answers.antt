use Rattle.std.proofs.Common.{ℕ, List, sym, ap, ◌∙◌}
use Rattle.std.specs.Prelude.{Some}
use Rattle.c_calls.proofs.KeyLaws.{found, none_yet}
use Rattle.c_calls.proofs.keys.first_after.Goals as goal

pub returns-then-is_above : goal.returns-then-is_above
returns-then-is_above c =
    ap (λ (k : List ℕ). Some k) c.as_slice.ensures
    ∙ found c.args.key.now c.args.rows.now c.loop-row.row-index c.row-item.result c.loop-row-test.true c.row-item.is c.loop-row.invariant
    (sym c.is_above.ensures ∙ c.if-is_above.true)

pub loop-row-preserved : goal.loop-row-preserved
loop-row-preserved c =
    none_yet c.args.key.now c.args.rows.now c.loop-row.row-index c.row-item.result c.loop-row-test.true c.row-item.is c.loop-row.invariant
    (sym c.is_above.ensures ∙ c.if-is_above.false)
