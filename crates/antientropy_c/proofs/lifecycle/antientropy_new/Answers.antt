use Rattle.range_store.specs.Config.{config_of}
use Rattle.antientropy_c.specs.Calls.{replica_in}
use Rattle.c_calls.specs.Fresh.{config_fault, IsFresh}
use Rattle.antientropy_c.proofs.MakeLaws.{filled}
use Rattle.antientropy_c.proofs.lifecycle.antientropy_new.Goals as goal

pub returns : goal.returns
returns c =
    let config = config_of c.args.format c.args.bits c.args.range c.args.limit in
    filled c.fill.result (replica_in c.args.replica.now) (replica_in c.fill.new.handle) (config_fault config)
    (IsFresh config) _ c.fresh-made.result c.in_default.ensures.value c.fill.ensures.number c.fill.ensures.filled c.fresh-made.ensures
