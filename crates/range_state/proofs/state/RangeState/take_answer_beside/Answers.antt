use Rattle.std.proofs.Common.{rules, ◌≡◌, Option, Some, sym, ap, subst, ◌∙◌, slice_get}
use Rattle.std.specs.Prelude.{MatchOption}
use Rattle.vclock.specs.declared.format.Format.{Format}
use Rattle.vclock.specs.declared.refusal.Refusal.TheVariants.{NotCanonical}
use Rattle.tree_nodes.specs.Nodes.{Node, tree_depth}
use Rattle.sync_session.specs.Steps.{IsDue, failed}
use Rattle.sync_session.specs.Walks.{TakenText, IsCanonical}
use Rattle.range_state.specs.declared.«record».Record.{Record}
use Rattle.range_store.specs.Config.{Config}
use Rattle.range_state.specs.State.{State}
use Rattle.range_state.specs.Sessions.{walked_to, IsInnerRead, IsNewsRead}
use Rattle.range_state.proofs.AnswerLaws.{leaf_read, inner_read, refused_for_good}
use Rattle.range_state.proofs.JudgementLaws.{text_refused}
use Rattle.range_state.proofs.state.RangeState.take_answer_beside.Goals as goal
use Rattle.range_state.proofs.state.RangeState.take_answer_beside.Goals.{In_ok-kept}

-- the text, and the record whose session may await it
abbrev text : In_ok-kept → TakenText
text c = record { node = c.args.node; text = c.args.text }

abbrev kept : In_ok-kept → Record
kept c = c.in_ok-kept.kept.now

here : (c : In_ok-kept) → slice_get c.args.self.now.records c.args.place ≡ Some (kept c)
here c = c.in_ok-kept.ensures.found.1

-- what holds for the record holds for that of the number
at_number : (c : In_ok-kept) (P : Record → Type 0) → P (kept c) → MatchOption (slice_get c.args.self.now.records c.args.place) ⊥ P
at_number c P is = subst (λ (o : Option Record). MatchOption o ⊥ P) (sym (here c)) is

pub take_leaf-requires : goal.take_leaf-requires
take_leaf-requires c =
    let at = (goal.at.take_leaf-requires c).In_ok-kept in
    let deep = ap (λ (n : Node). n.depth) (sym c.node.view_is) ∙ c.if-node-tree_depth.true ∙ c.tree_depth.ensures
    ∙ ap (λ (f : Format). tree_depth f) c.format.ensures ∙ ap (λ (x : Config). tree_depth x.format) c.config.ensures
    ∙ ap (λ (u : State). tree_depth u.store.config.format) c.self.view_is in
    at_number at (λ x. IsNewsRead c.args.self.now x (text at) c.in-Ok.news)
    (leaf_read c.args.self.now c.args.place (kept at) (text at) c.in-Ok.news c.in_ok-kept.ensures.valid (here at) (c.in-Ok.ensures 0).0.0
    (c.in-Ok.ensures 0).0.1 deep)

pub take_inner-requires : goal.take_inner-requires
take_inner-requires c =
    let at = (goal.at.take_inner-requires c).In_ok-kept in
    let depth = c.tree_depth.ensures ∙ ap (λ (f : Format). tree_depth f) c.format.ensures ∙ ap (λ (x : Config). tree_depth x.format) c.config.ensures
    ∙ ap (λ (u : State). tree_depth u.store.config.format) c.self.view_is in
    let other : c.args.node.depth ≡ tree_depth c.args.self.now.store.config.format
    → ⊥ = λ e. c.if-node-tree_depth.false (ap (λ (n : Node). n.depth) c.node.view_is ∙ e ∙ sym depth) in
    at_number at (λ x. IsInnerRead c.args.self.now x (text at))
    (inner_read c.args.self.now c.args.place (kept at) (text at) c.in-Ok.news c.in_ok-kept.ensures.valid (here at) (c.in-Ok.ensures 0).0.0
    (c.in-Ok.ensures 0).0.1 other)

pub fail_session-requires : goal.fail_session-requires
fail_session-requires c =
    let at = (goal.at.fail_session-requires c).In_ok-kept in
    let shown = rw c.in-Err-NotCanonical.field-0-is at c.in-Err-NotCanonical.ensures 0 in
    at_number at (λ x. (u : TakenText) × IsDue x.session u × (IsCanonical x.session.own u.node u.text → ⊥)) (text at, shown.0, shown.1)

pub returns-in-Err-NotCanonical-clause-answers : goal.returns-in-Err-NotCanonical-clause-answers
returns-in-Err-NotCanonical-clause-answers c =
    let at = (goal.at.returns-in-Err-NotCanonical-clause-answers c).In_ok-kept in
    let new = c.fail_session.new.self in
    let cause = rw c.in-Err-NotCanonical.field-0-is at c.in-Err-NotCanonical.ensures 0 in
    let is = subst (λ (o : Option Record). MatchOption o ⊥ (λ x. new ≡ walked_to c.args.self.now c.args.place x (failed x.session)))
    (here at) c.fail_session.ensures in
    refused_for_good c.args.self.now new c.args.seat c.args.place (kept at) (text at) (here at) cause is

pub returns-clause-answers : goal.returns-clause-answers
returns-clause-answers c =
    let at = (goal.at.returns-clause-answers c).In_ok-kept in
    let other : c.in-Err.refusal ≡ NotCanonical → ⊥ = search rules in
    text_refused c.args.self.now c.args.seat c.args.place (kept at) (text at) c.in-Err.refusal (here at) (c.in-Err.ensures c.args.seat) other
