use Rattle.std.proofs.Common.{◌≡◌, ◌-◌, ◌∙◌, ap, refl}
use Rattle.std.specs.Prelude.{Ok, Err}
use Rattle.c_calls.specs.Carried.{carried, restore_fault, restored}
use Rattle.antientropy_c.specs.Handoff.{hints_in}
use Rattle.antientropy_c.proofs.MakeLaws.{made}
use Rattle.antientropy_c.proofs.hint_calls.antientropy_hints_restore.Goals as goal

pub returns-in-Err : goal.returns-in-Err
returns-in-Err c =
    let a = c.args in
    made c.number.result (hints_in a.hints.now) (hints_in (record { store = c.take.new.self; before = a.hints.now.before })) (restore_fault a.first)
    (λ s. s ≡ restored a.first) (Err c.in-Err.refusal) c.in_default.ensures.value c.number.ensures (c.in-Err.ensures, c.take.ensures.none)

pub returns : goal.returns
returns c =
    let a = c.args in
    made 0 (hints_in a.hints.now) (hints_in (record { store = c.hold-2.new.self; before = a.first - 1 })) (restore_fault a.first)
    (λ s. s ≡ restored a.first) (Ok tt) c.in_default.ensures.value refl
    ((c.in-Ok.ensures.0, (c.hold-2.ensures.held, ap (carried (a.first - 1)) (c.hold-2.ensures.value ∙ c.in-Ok.ensures.1))), tt)
