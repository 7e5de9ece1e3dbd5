use Rattle.test_threads.proofs.interruptions.a_look_passes_a_sync.Given as goal

abbrev pub ghosts-interrupt-L-Ledger : goal.ghosts-interrupt-L-Ledger
ghosts-interrupt-L-Ledger g a = record { name = a.blank.name; parts = a.blank.parts }

abbrev pub ghosts-interrupt-C-Ledger : goal.ghosts-interrupt-C-Ledger
ghosts-interrupt-C-Ledger g a = record { name = a.slots.name; parts = a.slots.parts }
