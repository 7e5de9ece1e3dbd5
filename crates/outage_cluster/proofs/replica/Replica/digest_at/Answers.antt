use Rattle.std.proofs.Common.{Option, ap, sym, ◌∙◌}
use Rattle.range_state.specs.State.{State}
use Rattle.outage_cluster.specs.State.{Replica, range_in}
use Rattle.outage_cluster.proofs.NodeLaws.{shows_none}
use Rattle.outage_cluster.proofs.replica.Replica.digest_at.Goals as goal

pub returns-in-None : goal.returns-in-None
returns-in-None c =
    let config = c.self.inside.config in
    let none = sym (ap (λ (r : Replica). r.range) c.self.view_is) ∙ ap (λ (o : Option State). (range_in config o).store) c.in-None.is in
    sym (shows_none config c.args.self.now.range c.args.node.depth c.args.node.index none)
