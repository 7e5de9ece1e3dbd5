use Rattle.bench_costs.proofs.threads.ranges.run_alone.Given as goal

abbrev pub ghosts-run_on_own : goal.ghosts-run_on_own
ghosts-run_on_own g a = record { name = a.blank.name; parts = a.blank.parts }
