use Rattle.std.proofs.Common.{sym, ap, ◌∙◌, arith}
use Rattle.std.proofs.lemmas.Bool.Decides.{nat_tests}
use Rattle.admission.specs.Admission.{percentile}
use Rattle.admission.proofs.Ranks.{percentile_is, percentile_none}
use Rattle.admission.proofs.latency.percentile.Goals as goal

pub returns-then-is_empty-clause-value : goal.returns-then-is_empty-clause-value
returns-then-is_empty-clause-value c = sym (percentile_none c.args.room.now.items (grind (arith, nat_tests, c.is_empty.ensures, c.if-is_empty.true)))

pub returns-clause-value : goal.returns-clause-value
returns-clause-value c = sym (percentile_is _ _ c.ranked.ensures) ∙ ap percentile c.as_mut_slice.ensures.value
