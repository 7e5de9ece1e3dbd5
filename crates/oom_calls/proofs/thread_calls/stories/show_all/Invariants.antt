use Rattle.oom_calls.proofs.thread_calls.stories.show_all.Given as goal

abbrev pub ghosts-play-L-Ledger : goal.ghosts-play-L-Ledger
ghosts-play-L-Ledger g a = record { name = a.locked.name; parts = a.locked.parts }

abbrev pub ghosts-play-M-Ledger : goal.ghosts-play-M-Ledger
ghosts-play-M-Ledger g a = record { name = a.shared.name; parts = a.shared.parts }

abbrev pub ghosts-play-C-Ledger : goal.ghosts-play-C-Ledger
ghosts-play-C-Ledger g a = record { name = a.slots.name; parts = a.slots.parts }
