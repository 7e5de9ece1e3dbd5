use Rattle.caller_pass.proofs.RenewalLaws.{carried_seated}
use Rattle.caller_pass.proofs.renewal.prepare.Goals as goal

pub returns-clause-seated : goal.returns-clause-seated
returns-clause-seated g c =
    carried_seated c.args.state.now c.in_ok-state.state c.args.seat c.args.seats c.args.limit c.if-seat-seats.false c.in_ok-state.ensures.1
