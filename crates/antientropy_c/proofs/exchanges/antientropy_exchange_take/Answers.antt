use Rattle.std.proofs.Common.{◌∙◌}
use Rattle.antientropy_c.specs.Exchanges.{exchange_in}
use Rattle.antientropy_c.proofs.CallLaws.{held}
use Rattle.antientropy_c.proofs.exchanges.antientropy_exchange_take.Goals as goal

pub returns : goal.returns
returns c =
    held c.take_by-result.result (exchange_in c.args.exchange.now)
    (exchange_in c.hold.new.self) _ _ c.deref_mut.result.now c.take_by-result.new.exchange c.in-Some.ensures.value.0 c.hold.ensures.held
    (c.deref_mut.ensures.value ∙ c.in-Some.ensures.value.1) c.hold.ensures.value c.take_by-result.ensures
