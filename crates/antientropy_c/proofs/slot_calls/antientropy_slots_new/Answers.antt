use Rattle.std.proofs.Common.{◌≡◌}
use Rattle.admission.specs.Admission.{fresh_admission}
use Rattle.antientropy_c.specs.SlotCalls.{slots_in}
use Rattle.c_calls.specs.SlotCalls.{bounds_fault}
use Rattle.antientropy_c.proofs.MakeLaws.{filled}
use Rattle.antientropy_c.proofs.slot_calls.antientropy_slots_new.Goals as goal

pub returns : goal.returns
returns c =
    let a = c.args in
    filled c.fill.result (slots_in a.slots.now) (slots_in c.fill.new.handle) (bounds_fault a.floor a.ceiling)
    (λ budget. budget ≡ fresh_admission a.floor a.ceiling a.threshold) _ c.new_slots-made.result c.in_default.ensures.value c.fill.ensures.number
    c.fill.ensures.filled c.new_slots-made.ensures
