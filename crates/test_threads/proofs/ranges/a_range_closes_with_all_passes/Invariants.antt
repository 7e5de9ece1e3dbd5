use Rattle.test_threads.proofs.ranges.a_range_closes_with_all_passes.Given as goal

abbrev pub ghosts-close_at_last : goal.ghosts-close_at_last
ghosts-close_at_last g a = record { name = a.blank.name; parts = a.blank.parts }
