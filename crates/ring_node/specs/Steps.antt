-- The points at which a gate is passed, by their numbers.
use Rattle.std.specs.Prelude.{ℕ}
use Rattle.ring_node.specs.declared.gate.Step.{Step}
use Rattle.ring_node.specs.declared.gate.Step.TheVariants.{Taken, Hashed, Put, Round, Written, Read}

-- a job was taken, its text was hashed, a version was put, a round begins, a job's text was written, rows were read
abbrev pub step_number : Step → ℕ
step_number Taken = 1
step_number Hashed = 2
step_number Put = 3
step_number Round = 4
step_number Written = 5
step_number Read = 6
