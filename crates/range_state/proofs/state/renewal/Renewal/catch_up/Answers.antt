use Rattle.std.proofs.Common.{◌-◌, length, take, drop, ap, subst, ◌∙◌}
use Rattle.std.specs.List.{AllByRecursion}
use Rattle.range_store.specs.Store.{IsOwn}
use Rattle.range_state.specs.CatchUps.{Renewing, stranger_fault}
use Rattle.range_state.proofs.CatchUpLaws.{owns_later}
use Rattle.range_state.proofs.state.renewal.Renewal.catch_up.Goals as goal

pub accept_all-requires-clause-own : goal.accept_all-requires-clause-own
accept_all-requires-clause-own c =
    let r : Renewing = record { state = c.self.inside.state; began = c.self.inside.began; front = c.self.inside.front } in
    let es = c.entries.result.now in
    let old = c.args.old.now in
    let same = ap (λ (x : Renewing). stranger_fault x old) c.self.view_is ∙ c.in_ok-check_old.ensures.0 in
    subst (λ (x : Renewing). AllByRecursion (IsOwn x.state.store.config) (take c.min-count.result (take (length es - r.front) (drop r.front es))))
    c.self.view_is
    (owns_later r old (length es - r.front) c.min-count.result es c.journal.ensures.valid same (c.entries.ensures.value ∙ c.journal.ensures.entries))
