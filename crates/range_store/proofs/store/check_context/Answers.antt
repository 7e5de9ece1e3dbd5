use Rattle.std.proofs.Common.{List, map, sym, ap, ◌∙◌, inr}
use Rattle.version_set.specs.declared.version.Version.{Version}
use Rattle.range_store.proofs.FittingLaws.{failed}
use Rattle.range_store.proofs.store.check_context.Goals as goal

pub returns-then-fails : goal.returns-then-fails
returns-then-fails c = inr
    (failed c.args.test c.args.held.now c.as_slice.result.now c.args.at c.args.context.now c.in_ok-clocks.field-0 c.as_slice.ensures
    (sym c.fails.ensures ∙ c.if-fails.true)
    (c.in_ok-clocks.ensures.1 ∙ ap (λ (t : List Version). map (λ (v : Version). v.clock) t) (sym c.as_slice.ensures)))
