use Rattle.std.proofs.Common.{◌≡◌, ℕ, subst, ◌∙◌}
use Rattle.caller_pass.specs.Locks.{Locked}
use Rattle.caller_pass.specs.Renewals.{IsUnrenewed}
use Rattle.caller_pass.proofs.locked_range.LockedRange.renew.Goals as goal

pub returns-in-Err-clause-refused : goal.returns-in-Err-clause-refused
returns-in-Err-clause-refused g c =
    let seats : c.seats-seats.result ≡ g.L.Ledger.parts = c.seats-seats.ensures.value ∙ c.seats-seats.ensures.all in
    subst (λ (l : Locked). IsUnrenewed g.L.Ledger.parts l.state c.args.seat c.args.limit c.args.passes.items c.in-Err.refusal) c.self.view_is
    (subst (λ (n : ℕ). IsUnrenewed n c.self.inside.state c.args.seat c.args.limit c.args.passes.items c.in-Err.refusal) seats
    c.in-Err.ensures.refused)
