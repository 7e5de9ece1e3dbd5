use Rattle.std.proofs.Common.{◌≡◌, [], ◌∷◌, ◌++◌, ap, ap₂, ◌∙◌}
use Rattle.json.specs.Print.{print}
use Rattle.outage_script.specs.Answers.{answer_data}
use Rattle.outage_script.specs.Parts.{tokens_of}
use Rattle.outage_script.proofs.AnswerLemmas.{printed}
use Rattle.outage_script.proofs.answer.answer_line.Goals as goal

pub returns : goal.returns
returns c =
    let value = answer_data c.args.answer.now in
    let before : c.write_answer.new.out.before ≡ [] = c.in_ok-write_answer.ensures.before ∙ c.new-out.ensures.before
    ∙ c.in_ok-with_capacity.ensures.items in
    let tokens : c.write_answer.new.out.tokens ≡ tokens_of value = c.in_ok-write_answer.ensures.tokens
    ∙ ap (λ ts. ts ++ tokens_of value) c.new-out.ensures.tokens in
    c.in_ok-push.ensures.items
    ∙ ap (λ xs. xs ++ 10 ∷ []) (c.into_inner-line.ensures.items ∙ ap₂ (λ b ts. b ++ print ts) before tokens ∙ printed value)
