use Rattle.antientropy_c.specs.Exchanges.{exchange_in}
use Rattle.antientropy_c.proofs.ExchangeLaws.{opened}
use Rattle.antientropy_c.proofs.exchanges.open_into.Goals as goal

pub returns : goal.returns
returns c =
    opened c.fill.result (exchange_in c.args.exchange.now)
    (exchange_in c.fill.new.handle) _ _ _ _ c.open-made.result c.in_default.ensures.value c.fill.ensures.number c.fill.ensures.filled
    c.open-made.ensures
