use Rattle.test_threads.proofs.renewals.a_shared_range_is_renewed.Given as goal

abbrev pub ghosts-renew_shared : goal.ghosts-renew_shared
ghosts-renew_shared g a = record { name = a.blank.name; parts = a.blank.parts }
