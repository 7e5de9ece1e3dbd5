use Rattle.std.proofs.Common.{◌∙◌, sym, rules, tests}
use Rattle.std.proofs.lemmas.Iterator.{YieldsList-from_slice}
use Rattle.std.proofs.lemmas.Iterator.Search.{any_from_yields_List}
use Rattle.vclock.specs.Clock.{is_bad_pair}
use Rattle.c_calls.specs.Pairs.{clock_pair}
use Rattle.c_calls.specs.declared.pair.Pair.{Pair}
use Rattle.c_calls.proofs.PairLaws.{list_any-pairs}
use Rattle.c_calls.proofs.pair.has_bad_pair.Goals as goal

pub returns : goal.returns
returns c =
    any_from_yields_List (λ (x : Pair). is_bad_pair (clock_pair x)) _ _ _ c.any.ensures.ran (YieldsList-from_slice c.args.pairs.now cc)
    (λ x b q k. search (rules, tests))
    ∙ sym (list_any-pairs is_bad_pair c.args.pairs.now)
