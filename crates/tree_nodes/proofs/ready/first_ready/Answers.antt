use Rattle.std.proofs.Common.{◌≡◌, true, ◌+◌, ◌-◌, ◌<◌, length, arith, sym, ap, ◌∙◌}
use Rattle.tree_nodes.specs.Nodes.{is_ready, ready_from, are_clean}
use Rattle.tree_nodes.proofs.ReadyLaws.{ready_here, ready_pass, ready_skip, dirty_child, can_be_hashed}
use Rattle.tree_nodes.proofs.ready.first_ready.Goals as goal

pub loop-place-preserved-then-is_some : goal.loop-place-preserved-then-is_some
loop-place-preserved-then-is_some c =
    let digests = c.args.digests.now in
    let place = c.loop-place.place in
    let past = c.past_clean-place.result in
    let same : place + (past - place) ≡ past = omega (arith, c.past_clean-place.ensures.later) in
    let skip = ready_skip digests (past - place) place
    (λ k least most within. c.past_clean-place.ensures.clean k least (omega (arith, most, same)) within) in
    sym (skip ∙ ap (ready_from digests) same) ∙ c.loop-place.invariant

pub returns-then-are_clean : goal.returns-then-are_clean
returns-then-are_clean c =
    let digests = c.args.digests.now in
    let place = c.loop-place.place in
    let within : place < length digests = omega (arith, c.loop-place-test.true) in
    let children = sym c.are_clean.ensures ∙ c.if-are_clean.true in
    let ready : is_ready digests place ≡ true = can_be_hashed digests place (sym c.is_some.ensures ∙ c.if-is_some.false)
    (ap are_clean (sym c.children_at.ensures) ∙ children) in
    (sym c.loop-place.invariant ∙ ready_here digests place within ready, within)

pub loop-place-preserved : goal.loop-place-preserved
loop-place-preserved c =
    let digests = c.args.digests.now in
    let place = c.loop-place.place in
    let within : place < length digests = omega (arith, c.loop-place-test.true) in
    let children = sym c.are_clean.ensures ∙ c.if-are_clean.false in
    let later = ready_pass digests place within (dirty_child digests place (ap are_clean (sym c.children_at.ensures) ∙ children)) in
    sym later ∙ c.loop-place.invariant
