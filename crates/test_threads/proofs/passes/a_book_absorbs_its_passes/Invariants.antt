use Rattle.test_threads.proofs.passes.a_book_absorbs_its_passes.Given as goal

abbrev pub ghosts-absorb_two : goal.ghosts-absorb_two
ghosts-absorb_two g a = record { name = a.blank.name; parts = a.blank.parts }
