use Rattle.oom_calls.proofs.thread_calls.books.show_all.Given as goal

abbrev pub ghosts-opened : goal.ghosts-opened
ghosts-opened g a = record { name = a.blank.name; parts = a.blank.parts }

abbrev pub ghosts-absorbed : goal.ghosts-absorbed
ghosts-absorbed g a = record { name = a.blank.name; parts = a.blank.parts }
