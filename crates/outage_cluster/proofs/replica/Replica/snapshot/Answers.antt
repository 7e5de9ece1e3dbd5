use Rattle.std.proofs.Common.{Option, sym, ap, inr, ◌∙◌}
use Rattle.range_store.specs.Store as range
use Rattle.range_state.specs.State.{State}
use Rattle.outage_cluster.specs.State.{Replica, range_in}
use Rattle.outage_cluster.proofs.SyncLaws.{fresh_dirty}
use Rattle.outage_cluster.proofs.replica.Replica.snapshot.Goals as goal

pub returns-in-None : goal.returns-in-None
returns-in-None c =
    let config = c.self.inside.config in
    let none = sym (ap (λ (r : Replica). r.range) c.self.view_is) ∙ ap (λ (o : Option State). (range_in config o).store) c.in-None.is in
    inr (ap range.dirty_fault none ∙ fresh_dirty config)
