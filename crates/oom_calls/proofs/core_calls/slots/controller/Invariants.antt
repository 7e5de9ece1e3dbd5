use Rattle.oom_calls.proofs.core_calls.slots.controller.Given as goal

abbrev pub ghosts-free_slots : goal.ghosts-free_slots
ghosts-free_slots a = record { name = a.blank.name; parts = a.blank.parts }
