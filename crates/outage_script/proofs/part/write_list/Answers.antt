use Rattle.std.proofs.Common.{◌≤◌, [], ◌∷◌, ◌++◌, length, append_assoc, sym, ap, ◌∙◌}
use Rattle.json.specs.Token.{Token}
use Rattle.outage_script.proofs.AnswerLemmas.{items_left, item_written, items_end}
use Rattle.outage_script.proofs.part.write_list.Goals as goal

pub loop-item-preserved : goal.loop-item-preserved
loop-item-preserved g c = (
  item_written g.T.ToJson.shown c.args.items.now c.loop-item.out.tokens c.write.new.out.tokens c.loop-item.item-index c.item-item.result
      c.loop-item-test.true c.item-item.is c.in_ok-write.ensures.tokens ∙ c.loop-item.invariant.0,
  c.write.ensures.before ∙ c.loop-item.invariant.1,
)

pub returns-clause-tokens : goal.returns-clause-tokens
returns-clause-tokens g c =
    let past : length c.args.items.now ≤ c.loop-item.item-index = c.loop-item-test.false in
    c.in_ok-end_array.ensures.ok
    ∙ ap (λ ts. c.loop-item.out.tokens ++ ts) (sym (items_end g.T.ToJson.shown c.args.items.now c.loop-item.item-index past))
    ∙ c.loop-item.invariant.0
    ∙ append_assoc c.args.out.now.tokens (Token.begin_array ∷ []) (items_left g.T.ToJson.shown c.args.items.now)
