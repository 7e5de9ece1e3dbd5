use Rattle.test_threads.proofs.renewals.a_locked_range_is_renewed.Given as goal

abbrev pub ghosts-renew_locked : goal.ghosts-renew_locked
ghosts-renew_locked g a = record { name = a.blank.name; parts = a.blank.parts }
