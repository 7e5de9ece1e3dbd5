use Rattle.std.proofs.Common.{List, drop, length, refl, ap, subst, ◌∙◌}
use Rattle.range_journal.specs.declared.journal.Entry.{Entry}
use Rattle.range_state.specs.CatchUps.{Renewing, Accepts, FallsBehind, with_later}
use Rattle.range_state.specs.State.{State}
use Rattle.range_state.proofs.CatchUpLaws.{all_later}
use Rattle.range_state.proofs.state.renewal.Renewal.finish.Goals as goal

pub returns-in-Ok-clause-done : goal.returns-in-Ok-clause-done
returns-in-Ok-clause-done c =
    let r = c.args.self in
    let old = c.args.range.now in
    let es = drop r.front old.store.entries in
    let all = all_later r old c.len-all.result (c.len-all.ensures.count ∙ ap (λ (xs : List Entry). length xs) c.journal.ensures.entries) in
    let accepts = subst (λ (xs : List Entry). Accepts r c.args.seat xs c.catch_up.new.self) all c.in-Ok.ensures.1 in (
      c.replace.ensures.value,
      (
        c.in-Ok.ensures.0,
        accepts.0,
        c.replace.ensures.after ∙ c.number_sessions_from.ensures
            ∙ ap (λ (x : Renewing). record x.state { next_session = c.range.inside.next_session }) (c.self.view_is ∙ accepts.1)
            ∙ ap (λ (t : State). record (with_later r c.args.seat es).state { next_session = t.next_session }) c.range.view_is,
      ),
    )

pub returns-in-Err-clause-refused : goal.returns-in-Err-clause-refused
returns-in-Err-clause-refused c =
    let r = c.args.self in
    let old = c.args.range.now in
    let all = all_later r old c.len-all.result (c.len-all.ensures.count ∙ ap (λ (xs : List Entry). length xs) c.journal.ensures.entries) in
    (refl, subst (λ (xs : List Entry). FallsBehind r old c.args.seat xs c.in-Err.refusal c.catch_up.new.self) all c.in-Err.ensures)
