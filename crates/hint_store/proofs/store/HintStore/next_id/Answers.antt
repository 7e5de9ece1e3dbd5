use Rattle.std.proofs.Common.{◌≡◌, ap, ◌∙◌, subst, [], ◌∷◌, List, true, false}
use Rattle.std.specs.Prelude.{find, slice_get}
use Rattle.std.specs.List.Sorted.{IsPartitionPoint}
use Rattle.hint_store.specs.declared.hint.Kept.{Kept}
use Rattle.hint_store.specs.declared.store.Waiting.{Waiting}
use Rattle.hint_store.specs.Hints.{is_due}
use Rattle.hint_store.specs.Waits.{id_of, is_up_to}
use Rattle.hint_store.proofs.HintLaws.{ids}
use Rattle.hint_store.proofs.WaitLaws.{first_due}
use Rattle.hint_store.proofs.store.HintStore.next_id.Goals as goal

pub returns : goal.returns
returns c =
    let o = c.args.owner in
    let after = c.args.after in
    let p = c.place_after-place.result in
    let at = subst (λ (ws : List Waiting). IsPartitionPoint (λ v. is_up_to o after v ≡ true) (λ v. is_up_to o after v ≡ false) ws p)
    c.deref.ensures.value c.place_after-place.ensures.place in
    let due = first_due c.self.inside.hints.items c.self.inside.pending.items o after p c.self.invariant.0.numbered c.self.invariant.1 at in
    let seen = ap (λ (hs : List Kept). ids (find (is_due (o ∷ []) after) hs)) c.self.view_is in
    let same = ap (λ (ws : List Waiting). id_of o (slice_get ws p)) c.deref-2.ensures.value in
    c.id_at.ensures ∙ (same ∙ (due ∙ seen))
