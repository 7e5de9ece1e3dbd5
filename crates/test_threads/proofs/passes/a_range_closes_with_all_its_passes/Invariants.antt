use Rattle.test_threads.proofs.passes.a_range_closes_with_all_its_passes.Given as goal

abbrev pub ghosts-tell_two : goal.ghosts-tell_two
ghosts-tell_two g a = record { name = a.blank.name; parts = a.blank.parts }
