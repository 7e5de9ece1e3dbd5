use Rattle.std.proofs.Common.{ℕ, List, length, ap, arith}
use Rattle.text_patch.specs.Parts.{parts_at}
use Rattle.text_patch.proofs.StepLaws.{made_bounded}
use Rattle.text_patch.proofs.laws.a_made_text_is_bounded.Goals as goal

pub returns : goal.returns
returns c = λ own n steps text t.
    let len = λ (x : List ℕ). length x in
    omega (arith, made_bounded (parts_at own n) 0 t.makes.steps t.makes.forwards, ap len t.makes.spelled, ap len t.makes.made_is, ap len t.text_is)
