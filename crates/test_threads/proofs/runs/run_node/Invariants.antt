use Rattle.test_threads.proofs.runs.run_node.Given as goal

abbrev pub ghosts-run_with-L-Ledger : goal.ghosts-run_with-L-Ledger
ghosts-run_with-L-Ledger g a = record { name = a.blank.name; parts = a.blank.parts }

abbrev pub ghosts-run_with-C-Ledger : goal.ghosts-run_with-C-Ledger
ghosts-run_with-C-Ledger g a = record { name = a.slots.name; parts = a.slots.parts }
