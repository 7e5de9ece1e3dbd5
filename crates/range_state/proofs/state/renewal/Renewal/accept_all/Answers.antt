use Rattle.std.proofs.Common.{◌≡◌, take, sym, ap, subst, ◌∙◌}
use Rattle.std.proofs.lemmas.Result.{err_from_is_err_and}
use Rattle.hash_tree.proofs.KeyLaws.{all_get}
use Rattle.range_store.specs.Config.{Config}
use Rattle.range_store.specs.Store.{IsOwn}
use Rattle.range_state.specs.CatchUps.{Renewing}
use Rattle.range_state.proofs.CatchUpLaws.{accepts_next, same_config, stops_at}
use Rattle.range_state.proofs.state.renewal.Renewal.accept_all.Goals as goal

pub accept-requires-clause-own : goal.accept-requires-clause-own
accept-requires-clause-own c =
    let config : c.loop-entry.self.state.store.config ≡ c.args.self.now.state.store.config = ap
    (λ (r : Renewing). r.state.store.config) c.loop-entry.invariant.1
    ∙ same_config c.args.self.now.state.store c.args.seat (take c.loop-entry.entry-index c.args.entries.now) in
    let own = all_get (IsOwn c.args.self.now.state.store.config) c.args.entries.now c.loop-entry.entry-index c.entry-item.result c.requires.own
    c.loop-entry-test.true in
    subst (λ (d : Config). IsOwn d c.entry-item.result) (sym config) (subst (IsOwn c.args.self.now.state.store.config) (sym c.entry-item.is) own)

pub returns-in_err-accept-clause-stopped : goal.returns-in_err-accept-clause-stopped
returns-in_err-accept-clause-stopped c =
    let p = err_from_is_err_and c.from_residual.result c.from_residual.ensures.1 in
    rw (p.1, p.2) (stops_at c.args.self.now c.loop-entry.self c.accept.new.self c.args.seat c.args.entries.now c.loop-entry.entry-index
    c.entry-item.result c.in_err-accept.field-0.0 c.loop-entry.invariant c.loop-entry-test.true c.entry-item.is c.in_err-accept.ensures)

pub loop-entry-preserved : goal.loop-entry-preserved
loop-entry-preserved c =
    accepts_next c.args.self.now c.loop-entry.self c.accept.new.self c.args.seat c.args.entries.now c.loop-entry.entry-index c.entry-item.result
    c.loop-entry.invariant c.loop-entry-test.true c.entry-item.is c.in_ok-accept.ensures
