use Rattle.std.proofs.Common.{subst}
use Rattle.range_store.specs.Store.{IsSound}
use Rattle.range_store.proofs.StoreLaws.{held_fit}
use Rattle.range_store.proofs.store.RangeStore.find.Goals as goal

pub returns-clause-fit : goal.returns-clause-fit
returns-clause-fit c = held_fit c.args.self.now c.args.key.now (subst IsSound c.self.view_is c.self.invariant.0)
