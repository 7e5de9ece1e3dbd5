use Rattle.std.proofs.Common.{◌≡◌, subst, None, [], ◌∷◌, Option}
use Rattle.vclock.specs.Answer.{Answers}
use Rattle.hint_store.specs.declared.hint.Hint.{Hint}
use Rattle.hint_store.proofs.HintLaws.{next_found}
use Rattle.hint_store.proofs.store.HintStore.next.Goals as goal

pub returns : goal.returns
returns c =
    subst (λ (h : Option Hint). Answers c.copy_of.result None (λ found. found ≡ h))
    (next_found (c.args.owner ∷ []) c.args.after c.args.self.now c.next_id.result c.pending-valid.ensures.valid.numbered c.next_id.ensures)
    c.copy_of.ensures
