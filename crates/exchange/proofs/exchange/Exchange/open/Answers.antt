use Rattle.std.proofs.Common.{rules, ◌≡◌, false, sym, subst}
use Rattle.std.specs.Prelude.{bytes_eq, Result, Err}
use Rattle.vclock.specs.declared.refusal.Refusal.{Refusal}
use Rattle.snapshot.specs.RowMaps.{root_of}
use Rattle.range_state.specs.declared.local_rows.LocalRows.TheVariants.{Moment}
use Rattle.range_state.specs.Moments.{shown_rows}
use Rattle.range_state.specs.Sessions.{foreign_fault}
use Rattle.exchange.specs.declared.exchange.Exchange.{Exchange}
use Rattle.exchange.specs.Exchanges.{opening, OpensUnless}
use Rattle.exchange.proofs.OpenLaws.{opens_refused}
use Rattle.exchange.proofs.exchange.Exchange.open.Goals as goal

pub returns-in_err-session : goal.returns-in_err-session
returns-in_err-session c =
    let refused : c.from_residual-in_err-session.result ≡ Err c.in_err-session.field-0.0 = search rules in
    let other : bytes_eq c.args.offer.root (root_of (shown_rows Moment c.args.state.now)) ≡ false = search rules in
    subst (λ (r : Result Exchange Refusal). OpensUnless
    (foreign_fault c.args.state.now.store.config c.args.offer) r c.args.state.now c.open_session_at_moment.new.self
    (opening c.args.state.now c.args.partner c.args.offer c.args.bounds)) (sym refused)
    (opens_refused c.args.state.now c.open_session_at_moment.new.self c.args.partner c.args.offer c.args.bounds c.in_ok-check_offer.ensures.0
    c.in_ok-own.ensures.0 other c.in_err-session.field-0.0 c.in_err-session.ensures)
