use Rattle.std.proofs.Common.{None, ◌≡◌, sym, ap, subst, ◌∙◌}
use Rattle.vclock.specs.declared.format.Format.{Format}
use Rattle.vclock.specs.declared.format.Format.TheVariants.{One}
use Rattle.range_store.specs.Config.{Config}
use Rattle.range_store.specs.Migrates as stores
use Rattle.range_store.proofs.ChangeLaws.{given_state}
use Rattle.range_store.proofs.MigrateLaws as store_laws
use Rattle.range_state.specs.State.{State, IsRight}
use Rattle.range_state.specs.Moments.{last_whole}
use Rattle.range_state.proofs.MigrateLaws.{right_in_two}
use Rattle.range_state.proofs.state.RangeState.migrate.Goals as goal

pub invariant_of-self-in-One : goal.invariant_of-self-in-One
invariant_of-self-in-One c =
    let s : State = record {
      store = c.self.inside.store;
      records = c.self.inside.records.items;
      moment = c.self.inside.moment;
      whole_before = c.self.inside.whole_before;
      next_session = c.self.inside.next_session;
      settled = c.self.inside.settled;
    } in
    let one : s.store.config.format ≡ One = sym (c.format.ensures ∙ ap (λ (x : Config). x.format) c.config.ensures) ∙ c.in-One.is in
    let new : c.migrate.new.self ≡ stores.in_two s.store = given_state (c.in_ok-migrate-in-One.ensures)
    ∙ ap (λ (f : Format). stores.migrated_from f s.store) one in
    let whole = subst (λ (u : State). c.whole_front-whole.result ≡ last_whole u) (sym c.self.view_is) c.whole_front-whole.ensures in
    subst IsRight (λ i. record {
      store = sym new i;
      records = sym c.cancel_all.ensures i;
      moment = None;
      whole_before = sym whole i;
      next_session = s.next_session;
      settled = s.settled;
    })
    (right_in_two s c.self.invariant (store_laws.right_in_two s.store c.self.invariant.store one))
