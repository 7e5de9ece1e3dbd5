use Rattle.test_threads.proofs.loads.a_shared_range_loads_rows.Given as goal

abbrev pub ghosts-load_shared : goal.ghosts-load_shared
ghosts-load_shared g a = record { name = a.blank.name; parts = a.blank.parts }
