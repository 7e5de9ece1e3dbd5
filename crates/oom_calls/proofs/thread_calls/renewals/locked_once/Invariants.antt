use Rattle.oom_calls.proofs.thread_calls.renewals.locked_once.Given as goal

abbrev pub ghosts-locked_in : goal.ghosts-locked_in
ghosts-locked_in a = record { name = a.blank.name; parts = a.blank.parts }
