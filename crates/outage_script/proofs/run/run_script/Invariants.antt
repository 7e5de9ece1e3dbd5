use Rattle.outage_script.proofs.run.run_script.Given as goal

abbrev pub ghosts-run_freed : goal.ghosts-run_freed
ghosts-run_freed g a = record { name = a.blank.name; parts = a.blank.parts }
