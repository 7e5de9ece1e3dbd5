use Rattle.std.proofs.Common.{◌≡◌, ℕ, List, ◌∷◌, sym, ap, ◌∙◌}
use Rattle.text_patch.specs.Parts.{parts_at, first_at}
use Rattle.text_patch.proofs.StepLaws.{one_made}
use Rattle.text_patch.proofs.laws.steps_make_one_text.Goals as goal

pub returns : goal.returns
returns c = λ own n steps text other t o.
    let made = one_made (parts_at own n) 0 t.makes.steps o.makes.steps t.makes.forwards o.makes.forwards (t.makes.spelled ∙ sym o.makes.spelled) in
    let body : t.body ≡ o.body = sym t.makes.made_is ∙ made ∙ o.makes.made_is in
    t.text_is ∙ ap (λ (b : List ℕ). first_at own n ∷ b) body ∙ sym o.text_is
