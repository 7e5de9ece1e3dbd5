use Rattle.storm.proofs.storm.run_storm.Given as goal

abbrev pub ghosts-storm-S-Ledger : goal.ghosts-storm-S-Ledger
ghosts-storm-S-Ledger g a = record { name = a.first.name; parts = a.first.parts }

abbrev pub ghosts-storm-T-Ledger : goal.ghosts-storm-T-Ledger
ghosts-storm-T-Ledger g a = record { name = a.second.name; parts = a.second.parts }

abbrev pub ghosts-storm-C-Ledger : goal.ghosts-storm-C-Ledger
ghosts-storm-C-Ledger g a = record { name = a.slots.name; parts = a.slots.parts }
