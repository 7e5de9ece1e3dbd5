use Rattle.oom_calls.proofs.thread_calls.renewals.shared_once.Given as goal

abbrev pub ghosts-shared_in-L-Ledger : goal.ghosts-shared_in-L-Ledger
ghosts-shared_in-L-Ledger g a = record { name = a.range.name; parts = a.range.parts }

abbrev pub ghosts-shared_in-C-Ledger : goal.ghosts-shared_in-C-Ledger
ghosts-shared_in-C-Ledger g a = record { name = a.slots.name; parts = a.slots.parts }
