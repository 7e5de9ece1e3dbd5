use Rattle.std.proofs.lemmas.Bool.Decides.{Decides-eqb}
use Rattle.std.proofs.lemmas.Slice.Eq.{strip_prefix_is}
use Rattle.row_bytes.proofs.StripLaws.{to_strips}
use Rattle.row_bytes.proofs.comparison.strip.Goals as goal

pub returns : goal.returns
returns c = to_strips c.args.front.now c.args.text.now c.strip_prefix.result
    (strip_prefix_is Decides-eqb c.args.text.now c.args.front.now c.strip_prefix.result c.strip_prefix.ensures.cases)
