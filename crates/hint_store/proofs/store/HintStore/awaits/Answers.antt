use Rattle.std.proofs.Common.{◌&&◌, ap, sym, ◌∙◌}
use Rattle.hint_store.specs.Hints.{delivers_hint}
use Rattle.hint_store.proofs.HintLaws.{awaits_some, awaits_none}
use Rattle.hint_store.proofs.store.HintStore.awaits.Goals as goal

pub returns-then-is_open : goal.returns-then-is_open
returns-then-is_open c =
    c.is_delivery_of.ensures ∙ ap (λ b. b && delivers_hint c.args.delivery.now c.in-Some.kept.now.hint) (sym c.if-is_open.true ∙ c.is_open.ensures)
    ∙ sym (awaits_some c.args.self.now c.args.id c.args.delivery.now c.in-Some.kept.now c.pending-valid.ensures.valid.numbered c.in-Some.ensures)

pub returns-else-is_open : goal.returns-else-is_open
returns-else-is_open c =
    c.if-is_open.false ∙ ap (λ b. b && delivers_hint c.args.delivery.now c.in-Some.kept.now.hint) (sym c.if-is_open.false ∙ c.is_open.ensures)
    ∙ sym (awaits_some c.args.self.now c.args.id c.args.delivery.now c.in-Some.kept.now c.pending-valid.ensures.valid.numbered c.in-Some.ensures)

pub returns-in-None : goal.returns-in-None
returns-in-None c = sym (awaits_none c.args.self.now c.args.id c.args.delivery.now c.pending-valid.ensures.valid.numbered c.in-None.ensures)
