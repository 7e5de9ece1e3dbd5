use Rattle.std.proofs.lemmas.Result.{err_from_is_err_and}
use Rattle.range_state.proofs.CatchUpLaws.{accept_stays}
use Rattle.range_state.proofs.state.renewal.Renewal.accept.Goals as goal

pub returns-in_err-accept : goal.returns-in_err-accept
returns-in_err-accept c =
    let p = err_from_is_err_and c.from_residual-in_err-accept.result c.from_residual-in_err-accept.ensures.1 in
    rw (p.1, p.2) (accept_stays
    (record { state = c.self.inside.state; began = c.self.inside.began; front = c.self.inside.front }) c.args.self.now c.args.seat
    c.args.entry.now c.as_slice-key.result.now c.in_ok-version.version c.in_err-accept.field-0.0 c.accept.new.self c.self.view_is c.requires.own
    c.as_slice-key.ensures c.in_ok-version.ensures.1 c.in_err-accept.ensures)
