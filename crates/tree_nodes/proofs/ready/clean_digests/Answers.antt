use Rattle.std.proofs.Common.{None, is_some, arith, ap}
use Rattle.std.proofs.lemmas.List.Folds.{list_all_at}
use Rattle.tree_nodes.proofs.ready.clean_digests.Goals as goal

pub returns-in-None : goal.returns-in-None
returns-in-None c = list_all_at is_some c.args.nodes.now c.loop-j.j None (omega (arith, c.requires, c.loop-j-test.true)) (ap is_some c.in-None.is)
