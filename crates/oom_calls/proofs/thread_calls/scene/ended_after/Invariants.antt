use Rattle.oom_calls.proofs.thread_calls.scene.ended_after.Given as goal

abbrev pub ghosts-ended_in-L-Ledger : goal.ghosts-ended_in-L-Ledger
ghosts-ended_in-L-Ledger g a = record { name = a.locked.name; parts = a.locked.parts }

abbrev pub ghosts-ended_in-M-Ledger : goal.ghosts-ended_in-M-Ledger
ghosts-ended_in-M-Ledger g a = record { name = a.shared.name; parts = a.shared.parts }

abbrev pub ghosts-ended_in-C-Ledger : goal.ghosts-ended_in-C-Ledger
ghosts-ended_in-C-Ledger g a = record { name = a.slots.name; parts = a.slots.parts }
