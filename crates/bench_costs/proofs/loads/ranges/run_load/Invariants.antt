use Rattle.bench_costs.proofs.loads.ranges.run_load.Given as goal

abbrev pub ghosts-run_on-L-Ledger : goal.ghosts-run_on-L-Ledger
ghosts-run_on-L-Ledger g a = record { name = a.range.name; parts = a.range.parts }

abbrev pub ghosts-run_on-C-Ledger : goal.ghosts-run_on-C-Ledger
ghosts-run_on-C-Ledger g a = record { name = a.slots.name; parts = a.slots.parts }
