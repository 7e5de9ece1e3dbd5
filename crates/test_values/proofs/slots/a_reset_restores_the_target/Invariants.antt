use Rattle.test_values.proofs.slots.a_reset_restores_the_target.Given as goal

abbrev pub ghosts-expect_reset : goal.ghosts-expect_reset
ghosts-expect_reset a = record { name = a.blank.name; parts = a.blank.parts }
