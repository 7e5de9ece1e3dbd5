use Rattle.tree_nodes.proofs.ready.+past_clean.Given as goal

abbrev pub decreases-past_clean : goal.decreases-past_clean
decreases-past_clean l = l.place
