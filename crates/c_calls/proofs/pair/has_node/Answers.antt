use Rattle.std.proofs.Common.{◌∙◌, sym, eqb, rules, tests}
use Rattle.std.proofs.lemmas.Iterator.{YieldsList-from_slice}
use Rattle.std.proofs.lemmas.Iterator.Search.{any_from_yields_List}
use Rattle.c_calls.specs.declared.pair.Pair.{Pair}
use Rattle.c_calls.proofs.PairLaws.{list_any-pairs}
use Rattle.c_calls.proofs.pair.has_node.Goals as goal

pub returns : goal.returns
returns c =
    any_from_yields_List (λ (x : Pair). eqb x.node c.args.node) _ _ _ c.any.ensures.ran (YieldsList-from_slice c.args.pairs.now cc)
    (λ x b q k. search (rules, tests))
    ∙ sym (list_any-pairs (λ p. eqb p.0 c.args.node) c.args.pairs.now)
