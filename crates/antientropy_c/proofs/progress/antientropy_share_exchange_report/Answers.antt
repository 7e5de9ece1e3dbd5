use Rattle.std.proofs.Common.{refl, sym, ◌∙◌}
use Rattle.antientropy_c.specs.Exchanges.{exchange_in}
use Rattle.antientropy_c.proofs.CallLaws.{held}
use Rattle.antientropy_c.proofs.progress.antientropy_share_exchange_report.Goals as goal

pub returns : goal.returns
returns c =
    let x = c.deref.result.now in
    held c.report_to-result.result (exchange_in c.args.exchange.now)
    (exchange_in c.hold.new.self) _ _ x x c.in-Some.ensures.value.0 c.hold.ensures.held (c.deref.ensures ∙ c.in-Some.ensures.value.1)
    (c.hold.ensures.value ∙ sym c.deref.ensures) (refl, c.report_to-result.ensures)
