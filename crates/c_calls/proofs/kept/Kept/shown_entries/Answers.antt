use Rattle.std.proofs.Common.{◌≡◌, ℕ, ◌+◌, ap, sym, subst, ◌∙◌}
use Rattle.std.specs.Prelude.{None}
use Rattle.range_state.specs.Moments.{shown_fault}
use Rattle.range_state.specs.declared.local_rows.LocalRows.{LocalRows}
use Rattle.range_state.specs.State.{IsRight}
use Rattle.c_calls.specs.Kept.{KeptState}
use Rattle.c_calls.specs.Published.{shown_entries}
use Rattle.c_calls.proofs.KeptLaws.{moment_front}
use Rattle.c_calls.proofs.kept.Kept.shown_entries.Goals as goal

pub returns-in-Moment : goal.returns-in-Moment
returns-in-Moment c =
    let k = c.args.self.now in
    let right = subst (λ (x : KeptState). IsRight x.state) c.self.view_is c.journal-right.ensures.valid in
    c.front.ensures ∙ ap (λ (n : ℕ). k.first + n)
    (moment_front k.state right (subst (λ (l : LocalRows). shown_fault l k.state ≡ None) c.in-Moment.is c.requires))
    ∙ ap (λ (l : LocalRows). shown_entries l k) (sym c.in-Moment.is)
