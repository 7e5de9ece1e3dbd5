-- The commands for the slots for background work: section 6.5 of the Dynamo paper.
use Rattle.std.specs.Prelude.{◌-◌, Bool, true, ◌&&◌, nat_le}
use Rattle.vclock.specs.Outcome.{Outcome, gives, ◌>>=◌}
use Rattle.admission.specs.Admission.{Admission, allowance_of, free_of, lend, sample, adjust}
use Rattle.outage_commands.specs.declared.command.NewSample.{NewSample}
use Rattle.outage_commands.specs.declared.command.SlotCommand.{SlotCommand}
use Rattle.outage_commands.specs.declared.command.SlotCommand.TheVariants.{Lend, Back, Target, Adjust}
use Rattle.outage_cluster.specs.declared.answer.CommandAnswer.{CommandAnswer}
use Rattle.outage_cluster.specs.declared.answer.CommandAnswer.TheVariants as Answers
use Rattle.outage_cluster.specs.declared.answer.SlotCounts.{SlotCounts}

-- the controller after a slot is returned: unchanged if no slot is lent
abbrev pub given_back : Admission → Admission
given_back a = record a { slots = a.slots - 1 }

-- the numbers of slots that are lent or could be, that could be lent, and that are lent, and the maximum number
abbrev pub counts : Admission → SlotCounts
counts a = record { allowance = allowance_of a; free = free_of a; lent = a.slots; target = a.target }

-- the answer of a command for the slots, and the controller after it
unfoldable pub slot_act : SlotCommand → Admission → Outcome CommandAnswer Admission
slot_act Lend a = do
  lent ← lend a
  gives (Answers.Slots (counts lent.1)) lent.1
slot_act Back a = gives (Answers.Slots (counts (given_back a))) (given_back a)
slot_act (Target n) a = gives (Answers.Slots (counts (record a { target = n }))) (record a { target = n })
slot_act (Adjust now) a = do
  found ← adjust a now
  gives (Answers.Adjusted (counts found.1) found.0) found.1

-- a sample, and the number that are kept
unfoldable pub sample_act : NewSample → Admission → Outcome CommandAnswer Admission
sample_act q a = do
  kept ← sample a q.moment q.micros
  gives (Answers.Sample kept.0) kept.1

-- the controller may have such a target
abbrev pub is_target : Admission → SlotCommand → Bool
is_target a (Target n) = nat_le a.floor n && nat_le n a.ceiling
is_target a command = true
