use Rattle.std.proofs.Common.{ℕ, List, ◌+◌, get_or, drop, subst, []}
use Rattle.std.specs.List.{flat_map}
use Rattle.row_bytes.proofs.StripLaws.{IsBehind, flat_map-at, behind_more}
use Rattle.hash_tree.proofs.comparison.strip_all.Goals as goal

pub loop-digest-preserved : goal.loop-digest-preserved
loop-digest-preserved c =
    let ds = c.args.digests.now in
    let l = c.loop-digest in
    let id = λ (d : List ℕ). d in
    let text = c.args.text.now in
    let here = subst (λ (b : List ℕ). IsBehind text (flat_map id ds) l.rest.now b)
    (flat_map-at id ds l.digest-index [] c.loop-digest-test.true) l.invariant in
    behind_more text (flat_map id ds) l.rest.now c.in_ok-rest.rest.now (get_or ds l.digest-index [])
    (flat_map id (drop (l.digest-index + 1) ds)) here c.in_ok-rest.ensures
