use Rattle.std.proofs.Common.{◌≡◌, [], ◌∷◌, ◌++◌, drop}
use Rattle.json.specs.Token.{Token}
use Rattle.outage_script.proofs.AnswerLemmas.{items_left}
use Rattle.outage_script.proofs.part.write_list.Given as goal

-- what was written and what is left are the whole list
abbrev pub invariant-loop-item : goal.invariant-loop-item
invariant-loop-item g l =
    (l.out.tokens ++ items_left g.T.ToJson.shown
    (drop l.item-index l.items) ≡ (l.fn.out.tokens ++ Token.begin_array ∷ []) ++ items_left g.T.ToJson.shown l.items)
    × (l.out.before ≡ l.fn.out.before)
