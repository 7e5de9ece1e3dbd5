use Rattle.std.proofs.Common.{rules, ◌∙◌, ◌≡◌, None}
use Rattle.snapshot.specs.Snapshots.{answer_fault}
use Rattle.range_state.proofs.PatchLaws.{asking_awaited, awaited_whole, awaited_shallow}
use Rattle.range_state.proofs.state.RangeState.outline.Goals as goal

pub returns-in_default : goal.returns-in_default
returns-in_default c =
    let w = c.in_ok-session.session.now in
    let asked = c.in_ok-session.ensures.session in
    let awaited = asking_awaited c.args.self.now c.args.session c.args.node w c.asking.ensures.valid asked.0 asked.1 c.expected.ensures.root in
    absurd (c.in_default.not-Some awaited.digest (c.expected.ensures.digest ∙ awaited_whole w c.args.node awaited))

pub returns-in_err-parts : goal.returns-in_err-parts
returns-in_err-parts c =
    let w = c.in_ok-session.session.now in
    let asked = c.in_ok-session.ensures.session in
    let awaited = asking_awaited c.args.self.now c.args.session c.args.node w c.asking.ensures.valid asked.0 asked.1 c.expected.ensures.root in
    let shallow : answer_fault w.own c.args.node ≡ None = awaited_shallow w c.args.node awaited in
    search rules
