use Rattle.hint_store.proofs.RenewLaws.{counts-from}
use Rattle.hint_store.proofs.store.HintStore.counts.Goals as goal

pub returns : goal.returns
returns c = counts-from c.args.self.now c.pending.result c.delivered.result c.pending.ensures.count c.delivered.ensures
