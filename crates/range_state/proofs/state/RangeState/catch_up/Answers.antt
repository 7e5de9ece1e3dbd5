use Rattle.std.proofs.Common.{◌≡◌, length, sym, ap, ◌∙◌, inl, inr, arith}
use Rattle.vclock.specs.declared.refusal.Refusal.TheVariants.{NoMemory}
use Rattle.range_state.specs.State.{State}
use Rattle.range_state.proofs.ReconcileLaws.{given_up, broken_off, none_opened}
use Rattle.range_state.proofs.state.RangeState.catch_up.Goals as goal

pub returns-in-Some : goal.returns-in-Some
returns-in-Some c =
    let at : c.len-place.result ≡ length c.args.self.now.records = omega
    (arith, c.len-place.ensures, ap (λ (t : State). length t.records) c.self.view_is) in
    rw c.in-Some.is (inl (given_up c.args.self.now c.sync_with.new.self c.cancel_at-cancelled.new.self c.args.seat c.args.partner c.len-place.result
    c.args.other.now c.in-Ok.synced c.in-Some.refusal c.cancel_at-cancelled.result
    c.in-Ok.ensures.ok c.in-Ok.ensures.session c.in-Some.is at c.cancel_at-cancelled.ensures))

pub returns-in-Err : goal.returns-in-Err
returns-in-Err c =
    let at : c.len-place.result ≡ length c.args.self.now.records = omega
    (arith, c.len-place.ensures, ap (λ (t : State). length t.records) c.self.view_is) in
    let memory : c.in-Err.refusal ≡ NoMemory = elim c.in-Err.ensures.answers [
      | inl none ↦ none.1
      | inr some ↦ absurd (let clash = sym c.requires.free ∙ some in cc)
    ] in
    inr (
      memory,
      elim c.in-Err.ensures.late [
        | inl same ↦ inl (none_opened c.args.self.now c.sync_with.new.self c.cancel_at-cancelled-in-Err.new.self c.len-place.result
            c.cancel_at-cancelled-in-Err.result same at c.cancel_at-cancelled-in-Err.ensures)
        | inr part ↦ inr (broken_off c.args.self.now c.sync_with.new.self c.cancel_at-cancelled-in-Err.new.self c.args.seat c.args.partner
            c.len-place.result c.args.other.now c.cancel_at-cancelled-in-Err.result part at c.cancel_at-cancelled-in-Err.ensures)
      ],
    )
