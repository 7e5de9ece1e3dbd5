use Rattle.bench_costs.proofs.threads.ranges.run_plan.Given as goal

abbrev pub ghosts-run_on_one : goal.ghosts-run_on_one
ghosts-run_on_one g a = record { name = a.blank.name; parts = a.blank.parts }
