use Rattle.std.proofs.Common.{ℕ, List, ◌+◌, get_or, drop, subst}
use Rattle.std.specs.List.{flat_map}
use Rattle.version_set.specs.Version.{pair_text}
use Rattle.row_bytes.proofs.StripLaws.{IsBehind, flat_map-at, behind_more, behind_lacks}
use Rattle.row_bytes.proofs.comparison.strip_pairs.Goals as goal

pub returns-in_err-rest : goal.returns-in_err-rest
returns-in_err-rest c =
    let ps = c.args.pairs.now in
    let l = c.loop-pair in
    let text = c.args.text.now in
    let here = subst (λ (b : List ℕ). IsBehind text (flat_map pair_text ps) l.rest.now b)
    (flat_map-at pair_text ps l.pair-index (0, 0) c.loop-pair-test.true) l.invariant in
    rw c.from_residual.ensures
    (behind_lacks text (flat_map pair_text ps) l.rest.now (pair_text (get_or ps l.pair-index (0, 0)))
    (flat_map pair_text (drop (l.pair-index + 1) ps)) here c.in_err-rest.ensures)

pub loop-pair-preserved : goal.loop-pair-preserved
loop-pair-preserved c =
    let ps = c.args.pairs.now in
    let l = c.loop-pair in
    let text = c.args.text.now in
    let here = subst (λ (b : List ℕ). IsBehind text (flat_map pair_text ps) l.rest.now b)
    (flat_map-at pair_text ps l.pair-index (0, 0) c.loop-pair-test.true) l.invariant in
    behind_more text (flat_map pair_text ps) l.rest.now c.in_ok-rest.rest.now (pair_text (get_or ps l.pair-index (0, 0)))
    (flat_map pair_text (drop (l.pair-index + 1) ps)) here c.in_ok-rest.ensures
