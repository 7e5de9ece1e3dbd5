use Rattle.std.proofs.Common.{rules, ◌≡◌, List, None, sym, ap, subst, ◌∙◌}
use Rattle.version_set.specs.declared.version.Version.{Version}
use Rattle.version_set.specs.Version.{offer_fault}
use Rattle.range_journal.specs.Journal.{held}
use Rattle.range_store.specs.ContextTests.{context_fault}
use Rattle.range_store.specs.Store.{place_fault, put_version}
use Rattle.range_store.proofs.FittingLaws.{fitting_put}
use Rattle.range_store.proofs.store.RangeStore.make_put.Goals as goal

pub returns-clause-made : goal.returns-clause-made
returns-clause-made c =
    let s = c.args.self.now in
    let key = c.args.key.now in
    let v : Version = record { clock = c.in_ok-clock.clock; kind = c.args.kind; value = c.args.value } in
    let here : place_fault s.config key c.args.kind c.args.value ≡ None = ap (place_fault s.config key c.args.kind) (sym c.as_slice.ensures)
    ∙ c.in_ok-leaf.ensures.0 in
    let is : v ≡ put_version c.args.at c.args.context.now c.args.kind c.args.value = search rules in
    let passes = subst (λ (S : List Version). context_fault c.args.test S c.args.at c.args.context.now ≡ None) c.look_up-known.ensures.held
    c.in_ok-check_context.ensures.0 in
    let fits : offer_fault v (held s.entries key) ≡ None = rw (c.look_up-known.ensures.held, c.if-crowds.false) at c.crowds.ensures in
    fitting_put c.args.test s c.in_ok-leaf.leaf c.args.at key c.args.context.now c.args.kind c.args.value v
    (record {
      leaf_is = c.in_ok-leaf.ensures.1;
      here = here;
      raise = c.in_ok-clock.ensures.answers.0;
      version_is = is;
      clock = c.pairs-valid.ensures.valid;
      passes = passes;
      fits = fits;
    })
