use Rattle.std.proofs.Common.{◌≡◌, ap, sym, ◌∙◌, subst, None, Option}
use Rattle.std.specs.Prelude.{find}
use Rattle.vclock.specs.Answer.{Answers}
use Rattle.hint_store.specs.declared.hint.Hint.{Hint}
use Rattle.hint_store.specs.Waits.{earliest}
use Rattle.hint_store.specs.Hints.{is_due}
use Rattle.std.proofs.lemmas.List.{take_all}
use Rattle.hint_store.proofs.HintLaws.{next_found, next_more, no_owners, ids}
use Rattle.hint_store.proofs.store.HintStore.next_of.Goals as goal

pub loop-owner-init : goal.loop-owner-init
loop-owner-init c = no_owners c.args.after c.args.self.now

pub loop-owner-preserved : goal.loop-owner-preserved
loop-owner-preserved c =
    let step = next_more c.args.owners.now c.loop-owner.owner-index 0 c.args.after c.args.self.now c.pending-valid.ensures.valid.numbered
    c.loop-owner-test.true in
    c.lesser-least.ensures ∙ (ap (λ a. earliest a c.next_id.result) c.loop-owner.invariant ∙ (ap (earliest _) c.next_id.ensures ∙ sym step))

pub returns : goal.returns
returns c =
    subst (λ (h : Option Hint). Answers c.copy_of.result None (λ found. found ≡ h))
    (next_found c.args.owners.now c.args.after c.args.self.now c.loop-owner.least c.pending-valid.ensures.valid.numbered
    (c.loop-owner.invariant ∙ ap (λ os. ids (find (is_due os c.args.after) c.args.self.now))
    (take_all c.loop-owner.owner-index c.args.owners.now c.loop-owner-test.false)))
    c.copy_of.ensures
