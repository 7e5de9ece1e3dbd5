use Rattle.outage_script.proofs.run.run_last_script.Given as goal

abbrev pub ghosts-run_left : goal.ghosts-run_left
ghosts-run_left g a = record { name = a.blank.name; parts = a.blank.parts }
