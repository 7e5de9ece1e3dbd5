use Rattle.std.proofs.Common.{rules, ◌≡◌, ◌<◌, [], inl, inr, ap, subst, length, get_or, set, ◌∙◌, List, Some}
use Rattle.std.proofs.lemmas.List.{set-get_or}
use Rattle.std.proofs.lemmas.Result.{err_from_is_err_and}
use Rattle.hint_store.proofs.HintLaws.{get_or_same}
use Rattle.outage_cluster.specs.State.{Replica, home, replica_at}
use Rattle.outage_cluster.specs.Syncs.{walk_fault}
use Rattle.outage_cluster.proofs.DeliveryLaws.{sync_refused}
use Rattle.outage_cluster.proofs.SyncLaws.{walk_is_no_memory}
use Rattle.outage_cluster.proofs.cluster.Cluster.sync.Goals as goal

pub returns-in_err-done : goal.returns-in_err-done
returns-in_err-done c =
    let s = c.args.self.now in
    let own = c.args.own in
    let from = c.args.from in
    let e = c.in_err-done.field-0.0 in
    let reps = c.index_mut.result.now in
    let items = c.self.inside.ranges.items in
    let i = own.range in
    let inside : i < length items = search rules in
    let here : reps ≡ get_or items i reps = search rules in
    let same : items ≡ s.replicas = search rules in
    let at : reps ≡ get_or s.replicas i [] = here ∙ get_or_same items i reps [] inside ∙ ap (λ xs. get_or xs i []) same in
    let p = err_from_is_err_and c.from_residual.result c.from_residual.ensures.1 in
    rw (p.1, p.2) (elim c.in_err-done.ensures.answers [
      | inl memory ↦ inl memory
      | inr cause ↦
          let kept : c.sync.new.self ≡ reps = c.in_err-done.ensures.err
          (λ m. walk_is_no_memory (home from.node reps) (replica_at own.node reps) (cause ∙ ap Some m)) in
          let back : set items i c.sync.new.self ≡ items = ap (set items i) (kept ∙ here) ∙ set-get_or items i reps in
          inr (
            ap (λ (xs : List (List Replica)). record {
              ring = c.self.inside.ring;
              format = c.self.inside.format;
              down = c.self.inside.down.items;
              hints = c.self.inside.carriers.items;
              replicas = xs;
            }) back ∙ c.self.view_is,
            sync_refused own.node from.node i s e
                (subst (λ (rs : List Replica). walk_fault (home from.node rs) (replica_at own.node rs) ≡ Some e) at cause),
          )
    ])
