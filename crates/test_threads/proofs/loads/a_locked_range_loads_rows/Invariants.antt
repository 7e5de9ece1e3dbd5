use Rattle.test_threads.proofs.loads.a_locked_range_loads_rows.Given as goal

abbrev pub ghosts-load_into_locked : goal.ghosts-load_into_locked
ghosts-load_into_locked g a = record { name = a.blank.name; parts = a.blank.parts }
