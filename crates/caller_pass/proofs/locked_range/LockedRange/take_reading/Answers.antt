use Rattle.std.proofs.Common.{◌≡◌, ◌∷◌, [], ◌++◌, List, ap, subst, sym, ◌∙◌}
use Rattle.caller_pass.specs.declared.reading.Reading.{Reading}
use Rattle.caller_pass.specs.Passes.{PassView, IsPass}
use Rattle.caller_pass.proofs.PassLaws.{pass_read}
use Rattle.caller_pass.proofs.locked_range.LockedRange.take_reading.Goals as goal

pub invariant_of-pass-2 : goal.invariant_of-pass-2
invariant_of-pass-2 g c =
    let p : PassView = record {
      seat = c.pass.inside.seat;
      seen = c.pass.inside.seen;
      share = c.pass.inside.share.amount;
      receipts = c.pass.inside.receipts.items;
      readings = c.pass.inside.readings.items;
    } in
    let r : Reading = record { front = c.len-front.result; key = c.in_ok-copy_of.field-0; versions = c.in_ok-try_clone.field-0 } in
    let readings : c.push_reserved.new.self.items ≡ p.readings ++ r ∷ [] = c.push_reserved.ensures.items
    ∙ ap (λ (rs : List Reading). rs ++ r ∷ []) c.in_ok-reserve.ensures.items in (
      c.pass.invariant.0,
      subst (IsPass g.L.Ledger.parts) (λ i. record p { seen = r.front; readings = sym readings i })
          (pass_read g.L.Ledger.parts p r c.pass.invariant.1 c.if-front-pass.false),
      c.pass.invariant.2,
    )
