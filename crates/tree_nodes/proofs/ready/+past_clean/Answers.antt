use Rattle.std.proofs.Common.{◌/◌, arith}
use Rattle.tree_nodes.proofs.ReadyLaws.{children_clean}
use Rattle.tree_nodes.proofs.ready.+past_clean.Goals as goal

pub returns-in-Some-digests-clause-clean : goal.returns-in-Some-digests-clause-clean
returns-in-Some-digests-clause-clean t c = λ k least most within.
    children_clean c.args.digests.now (c.in-Some.before / 16) c.past_clean.result c.requires.below c.past_clean.ensures.clean k
    (omega (arith, least, c.in-Some.ensures)) most within
