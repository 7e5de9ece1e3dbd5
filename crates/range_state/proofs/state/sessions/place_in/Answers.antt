use Rattle.std.proofs.Common.{rules, ◌∙◌}
use Rattle.std.proofs.lemmas.List.Sorted.{answers_always}
use Rattle.range_state.specs.declared.«record».Record.{Record}
use Rattle.range_state.proofs.NumberLaws.{place_searched}
use Rattle.range_state.proofs.state.sessions.place_in.Goals as goal

-- the closure gives a record's number
pub returns : goal.returns
returns c =
    let facts = c.binary_search_by_key.ensures in
    let by_key = facts.position (λ (r : Record). r.number) (answers_always _ _ _ (λ f a r g called. search rules)) in
    c.unwrap_or.ensures ∙ place_searched c.args.records.now c.args.id c.binary_search_by_key.result c.requires facts.bound by_key
