use Rattle.example_store.proofs.days.run_days.Given as goal

abbrev pub ghosts-run_with-A-Ledger : goal.ghosts-run_with-A-Ledger
ghosts-run_with-A-Ledger g a = record { name = a.first.name; parts = a.first.parts }

abbrev pub ghosts-run_with-B-Ledger : goal.ghosts-run_with-B-Ledger
ghosts-run_with-B-Ledger g a = record { name = a.second.name; parts = a.second.parts }

abbrev pub ghosts-run_with-D-Ledger : goal.ghosts-run_with-D-Ledger
ghosts-run_with-D-Ledger g a = record { name = a.third.name; parts = a.third.parts }

abbrev pub ghosts-run_with-C-Ledger : goal.ghosts-run_with-C-Ledger
ghosts-run_with-C-Ledger g a = record { name = a.slots.name; parts = a.slots.parts }
