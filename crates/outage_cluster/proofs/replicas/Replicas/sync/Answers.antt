use Rattle.std.proofs.Common.{rules, ◌≡◌, ◌∙◌, sym, ap, subst, List, Some, get_or}
use Rattle.hash_tree.proofs.KeyLaws.{all_get}
use Rattle.range_store.specs.Store.{rows_now}
use Rattle.outage_cluster.specs.Homes.{IsHome}
use Rattle.outage_cluster.specs.State.{Replica, home}
use Rattle.outage_cluster.proofs.ReplicaLaws.{home_of, of_range}
use Rattle.outage_cluster.proofs.replicas.Replicas.sync.Goals as goal

pub sync_with-requires : goal.sync_with-requires
sync_with-requires c =
    let config = c.self.inside.config in
    let reps = c.self.inside.replicas.items in
    let i = c.args.own.place in
    let j = c.args.from.place in
    let own = c.index_mut.result.now in
    let partner = c.index.result.now in
    let h = partner.range in
    let here = subst (λ (rs : List Replica). IsHome c.args.own.node rs i) (sym c.self.view_is) c.requires.own in
    let beside = subst (λ (rs : List Replica). IsHome c.args.from.node rs j) (sym c.self.view_is) c.requires.from in
    let is : partner ≡ get_or reps j partner = search rules in
    let there : home c.args.from.node reps ≡ Some h = beside.holds partner ∙ ap (λ (r : Replica). Some r.range) (sym is) in
    let same : own.range.config ≡ (get_or reps i own).range.config = search rules in
    let fits : own.range.config ≡ config = same ∙ all_get (λ (r : Replica). r.range.config ≡ config) reps i own c.self.invariant here.within in
    let rows : c.deref.result.now ≡ rows_now h = search rules in
    of_range h own.range.config c.deref.result.now rows (home_of config reps c.args.from.node h c.self.invariant there ∙ sym fits)
