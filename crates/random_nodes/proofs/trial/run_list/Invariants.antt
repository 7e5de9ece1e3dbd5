use Rattle.random_nodes.proofs.trial.run_list.Given as goal

abbrev pub ghosts-run_in-L-Ledger : goal.ghosts-run_in-L-Ledger
ghosts-run_in-L-Ledger g a = record { name = a.blanks.0.name; parts = a.blanks.0.parts }

abbrev pub ghosts-run_in-M-Ledger : goal.ghosts-run_in-M-Ledger
ghosts-run_in-M-Ledger g a = record { name = a.blanks.1.name; parts = a.blanks.1.parts }

abbrev pub ghosts-run_in-N-Ledger : goal.ghosts-run_in-N-Ledger
ghosts-run_in-N-Ledger g a = record { name = a.blanks.2.name; parts = a.blanks.2.parts }

abbrev pub ghosts-run_in-C-Ledger : goal.ghosts-run_in-C-Ledger
ghosts-run_in-C-Ledger g a = record { name = a.blanks.3.name; parts = a.blanks.3.parts }
