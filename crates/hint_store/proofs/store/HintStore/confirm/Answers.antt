use Rattle.std.proofs.Common.{ap, sym, ◌∙◌, List, true, false}
use Rattle.std.specs.Option.{option_and_then}
use Rattle.hint_store.specs.declared.hint.Kept.{Kept}
use Rattle.hint_store.specs.Hints.{delivery_of, kept_at}
use Rattle.hint_store.proofs.HintLaws.{found_at, found_open, answered_fact, kept_answered}
use Rattle.hint_store.proofs.store.HintStore.confirm.Goals as goal

pub returns-then-not-awaits-clause-fact : goal.returns-then-not-awaits-clause-fact
returns-then-not-awaits-clause-fact c = answered_fact false c.args.self.now c.args.id c.args.delivery c.if-not-awaits.ensures

pub close-requires : goal.close-requires
close-requires c = found_open c.args.self.now c.args.id c.args.delivery
    (found_at c.args.self.now c.args.id c.args.delivery c.pending-valid.ensures.valid.numbered (sym c.if-not-awaits.ensures))

pub returns-clause-fact : goal.returns-clause-fact
returns-clause-fact c = answered_fact true c.args.self.now c.args.id c.args.delivery c.if-not-awaits.ensures

pub returns-clause-kept : goal.returns-clause-kept
returns-clause-kept c =
    ap (λ (hs : List Kept). option_and_then delivery_of (kept_at hs c.args.id)) c.close.ensures
    ∙ kept_answered c.args.self.now c.args.id c.args.delivery c.pending-valid.ensures.valid.numbered (sym c.if-not-awaits.ensures)
