use Rattle.test_threads.proofs.answers.a_pass_has_receipts_of_true_texts_alone.Given as goal

abbrev pub ghosts-answer_all : goal.ghosts-answer_all
ghosts-answer_all g a = record { name = a.blank.name; parts = a.blank.parts }
