use Rattle.admission.proofs.budget.SlotBudget.TheSendSync.{the_send}
use Rattle.antientropy_c.proofs.Structs.{Sends, sent, of_slots}

pub send : Sends of_slots
send = sent of_slots the_send
