use Rattle.std.proofs.Common.{◌≡◌, ℕ, Option, subst}
use Rattle.std.specs.Prelude.{slice_get, MatchOption}
use Rattle.vclock.specs.Answer.{Answers}
use Rattle.tree_nodes.specs.Nodes.{Node}
use Rattle.range_state.specs.Records.{record_of}
use Rattle.range_state.specs.Patches.{outline_fault, IsOutlineFor}
use Rattle.c_calls.proofs.AskLaws.{outlined}
use Rattle.c_calls.proofs.asks.outline.Goals as goal

pub returns : goal.returns
returns c =
    let s = c.args.state.now in
    let wide = c.in_ok-width.ensures in
    let there = c.in_ok-node.ensures in
    let found = subst (λ (o : Option Node). MatchOption (record_of c.args.session s.records) ⊥
    (λ r. o ≡ slice_get r.session.outstanding c.args.place)) c.in-Some.is there.1 in
    let said = subst (λ (w : ℕ). Answers c.outline.result (outline_fault s c.args.session c.in-Some.node w)
    (IsOutlineFor s c.args.session (record { offer = c.args.number; node = c.in-Some.node }) w)) wide.1 c.outline.ensures in
    outlined s c.args.session c.args.place c.args.number c.args.width c.in-Some.node c.outline.result wide.0 there.0 found said
