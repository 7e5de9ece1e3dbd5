-- Runs that go on.
use Rattle.std.proofs.Common.{List, [], ◌∷◌, ◌++◌, refl, subst}
use Rattle.range_state.specs.declared.event.Event.{Event}
use Rattle.range_state.specs.declared.event.Reply.{Reply}
use Rattle.range_state.specs.State.{State, IsRight}
use Rattle.range_state.specs.Run.{IsStep, Run}

pub Run-none : (s : State) → Run s [] [] s
unfolding Run
Run-none s = refl

pub Run-push : (s m t : State) (es : List Event) (rs : List Reply) (e : Event) (r : Reply) → Run s es rs m → IsStep m e r t → IsRight t
    → Run s (es ++ e ∷ []) (rs ++ r ∷ []) t
unfolding Run
Run-push s m t [] [] e r run st right = (t, subst (λ (x : State). IsStep x e r t) run st, right, refl)
Run-push s m t [] (q ∷ rs) e r run st right = absurd run
Run-push s m t (d ∷ es) [] e r run st right = absurd run
Run-push s m t (d ∷ es) (q ∷ rs) e r run st right = (run.0, run.1, run.2, Run-push run.0 m t es rs e r run.3 st right)
