use Rattle.test_threads.proofs.rehashes.a_write_passes_a_rehash_at_step_5.Given as goal

abbrev pub ghosts-put_at_a_gate-L-Ledger : goal.ghosts-put_at_a_gate-L-Ledger
ghosts-put_at_a_gate-L-Ledger g a = record { name = a.first.name; parts = a.first.parts }

abbrev pub ghosts-put_at_a_gate-M-Ledger : goal.ghosts-put_at_a_gate-M-Ledger
ghosts-put_at_a_gate-M-Ledger g a = record { name = a.second.name; parts = a.second.parts }

abbrev pub ghosts-put_at_a_gate-C-Ledger : goal.ghosts-put_at_a_gate-C-Ledger
ghosts-put_at_a_gate-C-Ledger g a = record { name = a.slots.name; parts = a.slots.parts }
