use Rattle.std.proofs.Common.{◌∙◌}
use Rattle.antientropy_c.specs.Exchanges.{exchange_in}
use Rattle.antientropy_c.proofs.CallLaws.{held}
use Rattle.antientropy_c.proofs.exchanges.antientropy_share_exchange_next.Goals as goal

pub returns : goal.returns
returns c =
    held c.next_of-result.result (exchange_in c.args.exchange.now)
    (exchange_in c.hold.new.self) _ _ c.deref_mut.result.now c.next_of-result.new.exchange c.in-Some.ensures.value.0 c.hold.ensures.held
    (c.deref_mut.ensures.value ∙ c.in-Some.ensures.value.1) c.hold.ensures.value c.next_of-result.ensures
